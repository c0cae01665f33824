use Rattle.std.proofs.Common.{◌≡◌, ◌≤◌, ◌-◌, length}
use Rattle.wasm_code.proofs.body.read_runs.Given as goal
use Rattle.module_specs.specs.CodeReading.{runs_at}
use Rattle.module_specs.proofs.Loops.{with_front}

abbrev pub invariant-loop : goal.invariant-loop
invariant-loop l = record {
  from : l.at ≤ l.place;
  place : l.place ≤ length l.bytes;
  most : length l.locals.items ≤ 4096;
  is : with_front l.locals.items (runs_at l.body l.bytes (4096 - length l.locals.items) (l.count - l.counter) l.place) ≡ runs_at l.body l.bytes 4096 l.count l.at;
}
