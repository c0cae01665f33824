use Rattle.wasm_memory.specs.Pools.{IsThere}
use Rattle.module_cases.proofs.memory.memory.Given as goal

abbrev pub invariant-loop-call : goal.invariant-loop-call
invariant-loop-call l = IsThere l.pool l.memory
