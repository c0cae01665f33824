use Rattle.std.proofs.Common.{◌≡◌, ◌≤◌, ◌-◌, length}
use Rattle.module_specs.specs.Reading.{each_at, u32_at}
use Rattle.wasm_code.proofs.items.each_label.Given as goal
use Rattle.module_specs.proofs.Loops.{with_front}

abbrev pub invariant-loop : goal.invariant-loop
invariant-loop l = record {
  from : l.at ≤ l.place;
  place : l.place ≤ length l.bytes;
  is : with_front l.items.items (each_at u32_at l.bytes (l.count - l.counter) l.place) ≡ each_at u32_at l.bytes l.count l.at;
}
