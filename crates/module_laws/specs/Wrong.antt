-- Grammars and readings that are wrong in one thing.
use Rattle.std.specs.Prelude.{◌≡◌, ℕ, ◌+◌, List, length, get_or, take, Result, Ok, Err}
use Rattle.wasm_types.specs.Modules.{NestedModule}
use Rattle.module_specs.specs.declared.fault.Fault.{Fault}
use Rattle.module_specs.specs.declared.fault.Fault.TheVariants as fault
use Rattle.module_specs.specs.ModuleSpelling.{empty, SpellsModule}
use Rattle.module_specs.specs.ModuleReading.{module_read}

-- anything may stand behind a module
abbrev pub SpellsFront : NestedModule → List ℕ → Type 0
SpellsFront m b = (place : ℕ) × SpellsModule m (take place b)

-- a custom section right behind the header is refused
abbrev pub SpellsUnmarked : NestedModule → List ℕ → Type 0
SpellsUnmarked m b = SpellsModule m b × (get_or b 8 1 ≡ 0 → ⊥)

-- the header of a file
abbrev pub header : List ℕ → List ℕ
header b = take 8 b

-- what stands behind the header is left unread
abbrev pub header_alone : List ℕ → Result NestedModule Fault
header_alone b = module_read (header b)

-- what can't be read is nothing
abbrev pub or_nothing : Result NestedModule Fault → Result NestedModule Fault
or_nothing (Ok m) = Ok m
or_nothing (Err e) = Ok empty

abbrev pub never_refused : List ℕ → Result NestedModule Fault
never_refused b = or_nothing (module_read b)

-- faults with one place for all of them
abbrev pub at_place : ℕ → Result NestedModule Fault → Result NestedModule Fault
at_place place (Ok m) = Ok m
at_place place (Err e) = Err (fault.Form place)

-- a fault is behind the end
abbrev pub past_the_end : List ℕ → Result NestedModule Fault
past_the_end b = at_place (length b + 1) (module_read b)

-- a fault is at the end
abbrev pub at_the_end : List ℕ → Result NestedModule Fault
at_the_end b = at_place (length b) (module_read b)

-- functions without bodies are a fault of form
abbrev pub no_counts : Result NestedModule Fault → Result NestedModule Fault
no_counts (Ok m) = Ok m
no_counts (Err (fault.Count place)) = Err (fault.Form place)
no_counts (Err e) = Err e

abbrev pub no_count : List ℕ → Result NestedModule Fault
no_count b = no_counts (module_read b)

-- functions without bodies don't count
abbrev pub without_count : Result NestedModule Fault → Result NestedModule Fault
without_count (Ok m) = Ok m
without_count (Err (fault.Count place)) = Ok empty
without_count (Err e) = Err e

abbrev pub uncounted : List ℕ → Result NestedModule Fault
uncounted b = without_count (module_read b)

-- memory always runs out
abbrev pub never_read : List ℕ → Result NestedModule Fault
never_read b = Err fault.Memory
