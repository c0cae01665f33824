use Rattle.std.proofs.Common.{◌≡◌, ◌≤◌, ◌-◌, length}
use Rattle.module_specs.specs.Reading.{each_at}
use Rattle.module_specs.specs.Reading.{byte_at}
use Rattle.module_specs.proofs.Loops.{with_front}
use Rattle.wasm_reader.proofs.items.each_byte.Given as goal

abbrev pub invariant-loop : goal.invariant-loop
invariant-loop l = record {
  place : l.place ≤ length l.bytes;
  is : with_front l.items.items (each_at byte_at l.bytes (l.count - l.counter) l.place) ≡ each_at byte_at l.bytes l.count l.at;
}
