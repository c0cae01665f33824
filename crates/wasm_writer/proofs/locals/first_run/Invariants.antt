use Rattle.std.proofs.Common.{◌≡◌, ◌+◌, drop}
use Rattle.wasm_writer.specs.FlatTexts.{first_run}
use Rattle.wasm_writer.proofs.Loops.{alike_left}
use Rattle.wasm_writer.proofs.locals.first_run.Given as goal

abbrev pub invariant-loop-local : goal.invariant-loop-local
invariant-loop-local l = record {
  count : l.n ≡ l.local-index;
  is : first_run l.locals ≡ l.n + alike_left l.locals (drop l.local-index l.locals);
}
