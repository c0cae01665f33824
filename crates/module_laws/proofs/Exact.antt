-- A file is read as what it spells.
use Rattle.std.proofs.Common.{◌≡◌, ℕ, List, Result, Ok, Err, refl}
use Rattle.leb_bytes.proofs.Spelled.{bytes_of_all}
use Rattle.wasm_types.specs.Modules.{NestedModule}
use Rattle.module_specs.specs.declared.fault.Fault.{Fault}
use Rattle.module_specs.specs.ModuleSpelling.{SpellsModule}
use Rattle.module_specs.specs.ModuleReading.{module_read}
use Rattle.module_specs.proofs.Modules.{module_again, module_here}
use Rattle.module_laws.specs.Readings.{GivesSpelled, RefusesUnspelled}
use Rattle.module_laws.proofs.Determined.{tell, clash}

pub gives : GivesSpelled module_read
gives m b bytes = (λ e. module_here tell m b (bytes_of_all b bytes) e, λ s. module_again tell m b s)

-- some fault is given
abbrev IsRefused : List ℕ → Type 0
IsRefused b = (e : Fault) × (module_read b ≡ Err e)

pub refuses : RefusesUnspelled module_read
refuses b bytes = (unspelled, by_read (module_read b) refl)
  where
    unspelled : IsRefused b → (m : NestedModule) → SpellsModule m b → ⊥
    unspelled r m s = clash (module_read b) r.0 m r.1 (module_again tell m b s)

    by_read : (r : Result NestedModule Fault) → module_read b ≡ r → ((m : NestedModule) → SpellsModule m b → ⊥) → IsRefused b
    by_read (Ok m) is none = absurd (none m (module_here tell m b (bytes_of_all b bytes) is))
    by_read (Err e) is none = (e, is)
