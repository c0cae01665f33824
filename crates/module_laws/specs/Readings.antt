-- Laws of a reading, which gives for the bytes of a file the module or the first fault.
use Rattle.std.specs.Prelude.{◌≡◌, ◌↔◌, ◌⊎◌, ℕ, List, ◌++◌, length, Result, Ok, Err}
use Rattle.wasm_types.specs.Modules.{NestedModule}
use Rattle.module_specs.specs.declared.fault.Fault.{Fault}
use Rattle.module_specs.specs.declared.fault.Fault.TheVariants.{Short, Magic, Version, Count, Memory}
use Rattle.module_specs.specs.Spelling.{Here}
use Rattle.module_specs.specs.ModuleSpelling.{SpellsModule, magic, version}
use Rattle.module_specs.specs.Faults.{IsIn}
use Rattle.module_laws.specs.Files.{AreBytes, IsFile, AgreeUpTo, IsBroken, IsOverlong, IsStuck, LacksBodies}

-- It gives the module that the bytes spell, and no other.
abbrev pub GivesSpelled : (List ℕ → Result NestedModule Fault) → Type 0
GivesSpelled read = (m : NestedModule) (b : List ℕ) → AreBytes b → (read b ≡ Ok m) ↔ SpellsModule m b

-- It refuses exactly the bytes that spell no module.
abbrev pub RefusesUnspelled : (List ℕ → Result NestedModule Fault) → Type 0
RefusesUnspelled read =
    (b : List ℕ) → AreBytes b → ((e : Fault) × (read b ≡ Err e)) ↔ ((m : NestedModule) → SpellsModule m b → ⊥)

-- no header, and the fault is one of the header
pub record IsHeadless (b : List ℕ) (e : Fault) : Type 0 where
  pub unspelled : Here b 0 (magic ++ version) 8 → ⊥
  pub of_header : (e ≡ Magic 0) ⊎ (e ≡ Version 4)

-- A file that is refused has no header; or a place behind its header or behind a section where no section is spelled; or
-- sections up to its end that lack bodies, and then the fault is Count at the end.
abbrev pub RefusalsHaveCauses : (List ℕ → Result NestedModule Fault) → Type 0
RefusalsHaveCauses read =
    (b : List ℕ) (e : Fault) → IsFile b → read b ≡ Err e
    → IsHeadless b e ⊎ (IsStuck b ⊎ (LacksBodies b × (e ≡ Count (length b))))

-- A fault lies in the file or at its end, or a section's size leads past the file, and the fault is Short at the end that it
-- states.
abbrev pub FaultsLieInFile : (List ℕ → Result NestedModule Fault) → Type 0
FaultsLieInFile read =
    (b : List ℕ) (e : Fault) → AreBytes b → read b ≡ Err e
    → IsIn (length b) e ⊎ ((stop : ℕ) × IsOverlong b stop × (e ≡ Short stop))

-- it is a fault of the bytes, and not want of memory
abbrev pub IsOfBytes : Fault → Type 0
IsOfBytes Memory = ⊥
IsOfBytes e = Unit {0}

-- Want of memory is no fault of a file.
abbrev pub FaultsAreOfBytes : (List ℕ → Result NestedModule Fault) → Type 0
FaultsAreOfBytes read = (b : List ℕ) (e : Fault) → AreBytes b → read b ≡ Err e → IsOfBytes e

-- The fault of a file with a broken section is that of every file with the same bytes up to the end that this section states.
abbrev pub FaultsStay : (List ℕ → Result NestedModule Fault) → Type 0
FaultsStay read =
    (b c : List ℕ) (stop : ℕ) (e : Fault) → IsFile b → IsFile c → IsBroken b stop → AgreeUpTo stop b c
    → read b ≡ Err e → read c ≡ Err e
