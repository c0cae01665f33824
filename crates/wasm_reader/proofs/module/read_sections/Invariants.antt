use Rattle.std.proofs.Common.{◌≡◌, ◌≤◌, ◌-◌, length}
use Rattle.module_specs.specs.ModuleSpelling.{start}
use Rattle.module_specs.specs.ModuleReading.{sections_at}
use Rattle.wasm_reader.specs.Flat.{before_of, ends_in, nothing}
use Rattle.wasm_reader.proofs.module.read_sections.Given as goal

abbrev pub invariant-loop : goal.invariant-loop
invariant-loop l = record {
  place : l.place ≤ length l.bytes;
  is : ends_in l.sofar (sections_at (l.end - l.counter) (before_of l.sofar) l.bytes l.place) ≡ ends_in nothing (sections_at (length l.bytes) start l.bytes l.at);
}
