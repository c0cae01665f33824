-- Laws of modules that are cut: of what is left up to a place.
use Rattle.std.specs.Prelude.{◌≡◌, ◌≤◌, ◌⊎◌, ℕ, List, length, take, Result, Ok, Err}
use Rattle.wasm_types.specs.Modules.{NestedModule}
use Rattle.module_specs.specs.declared.fault.Fault.{Fault}
use Rattle.module_specs.specs.declared.fault.Fault.TheVariants.{Count}
use Rattle.module_specs.specs.Fronts.{Begins}
use Rattle.module_specs.specs.ModuleSpelling.{Section, module_of, SpellsModule}
use Rattle.module_laws.specs.Files.{AreBytes, IsBehind, IsInside, HasBodies}

-- Each place of a module lies inside its header or a section, or behind one, and none does both.
abbrev pub EachPlace : (NestedModule → List ℕ → Type 0) → Type 0
EachPlace Spells =
    (m : NestedModule) (b : List ℕ) (place : ℕ) → Spells m b → place ≤ length b
    → (IsInside b place ⊎ IsBehind b place) × (IsInside b place → IsBehind b place → ⊥)

-- A module that is cut inside its header or a section is refused.
abbrev pub RefusesCuts : (List ℕ → Result NestedModule Fault) → Type 0
RefusesCuts read =
    (m : NestedModule) (b : List ℕ) (place : ℕ) → AreBytes b → SpellsModule m b → IsInside b place
    → (e : Fault) × (read (take place b) ≡ Err e)

-- A module that is cut behind its header or a section is the module of the sections that are left, if they have a body for
-- each of their functions.
abbrev pub CutsAreModules : (List ℕ → Result NestedModule Fault) → Type 0
CutsAreModules read =
    (m : NestedModule) (b : List ℕ) (place : ℕ) (sections : List Section) → SpellsModule m b → Begins b sections place
    → HasBodies sections → read (take place b) ≡ Ok (module_of sections)

-- If they haven't, the fault is Count at the end.
abbrev pub CutsAreCounted : (List ℕ → Result NestedModule Fault) → Type 0
CutsAreCounted read =
    (m : NestedModule) (b : List ℕ) (place : ℕ) (sections : List Section) → AreBytes b → SpellsModule m b
    → Begins b sections place → (HasBodies sections → ⊥) → read (take place b) ≡ Err (Count place)
