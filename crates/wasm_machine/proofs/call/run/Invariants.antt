use Rattle.std.proofs.Common.{◌≤◌, length}
use Rattle.wasm_memory.specs.Pools.{bytes_in}
use Rattle.wasm_machine.specs.Instances.{store_in, Leaves}
use Rattle.wasm_machine.specs.Calls.{meant}
use Rattle.wasm_machine.proofs.Runs.{Stays, left_of}
use Rattle.wasm_machine.proofs.call.run.Given as goal

abbrev pub invariant-loop-end : goal.invariant-loop-end
invariant-loop-end l = record {
  stays : Stays l.parts l.stack (store_in l.pool l.instance) l.fuel
      (meant l.parts l.func l.arguments (store_in l.fn.pool l.fn.instance) l.fn.fuel);
  leaves : Leaves l.parts l.fn.pool l.pool l.fn.instance l.instance;
  grown : length (bytes_in l.fn.pool l.fn.instance.memory) ≤ length (bytes_in l.pool l.instance.memory);
}

abbrev pub decreases-loop-end : goal.decreases-loop-end
decreases-loop-end l = left_of l.stack l.fuel
