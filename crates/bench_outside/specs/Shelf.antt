-- What the calls of a shelf say of what it holds and of its faults.
use Rattle.std.specs.Prelude.{◌≡◌, ◌≤◌, ℕ, List, Option, Result, OnOk, IsErrOf}
use Rattle.std.specs.Prelude.{option_map, if◌then◌else◌, bytes_eq}
use Rattle.bench_outside.specs.Causes.{Rose}
use Rattle.bench_outside.specs.declared.shelf.ShelfError.{ShelfError}
use Rattle.bench_outside.specs.declared.shelf.ShelfError.TheVariants.{Failed, Memory}

-- the bytes of each name; a name that isn't there has none
abbrev pub Contents : Type 0
Contents = List ℕ → List ℕ

-- these contents, with other bytes under this one name
abbrev pub with_file : Contents → List ℕ → List ℕ → Contents
with_file held name bytes other = if bytes_eq other name then bytes else held other

-- Now the name holds these bytes, and every other name what it held.
-- This and the next speak where the shelf tells what it holds.
abbrev pub Stores : Option Contents → Option Contents → List ℕ → List ℕ → Type 0
Stores old new name bytes = new ≡ option_map (λ held. with_file held name bytes) old

-- every name but this one holds what it held; of this one nothing is known
abbrev pub SparesOthers : Option Contents → Option Contents → List ℕ → Type 0
SparesOthers old new name = (bytes : List ℕ) × Stores old new name bytes

-- how many calls failed, and the name that the last of them was given
pub record Faults : Type 0 where
  pub count : ℕ
  pub last : List ℕ

-- The count never falls. A failure comes only where it rose, and then the last call that failed
-- was given this name. With Ok, and for want of memory, the faults stay.
pub record Blames {T : Type 0} (before now : Faults) (name : List ℕ)
    (result : Result T ShelfError) : Type 0 where
  pub later : before.count ≤ now.count
  pub rose : IsErrOf result Failed → Rose before.count now.count
  pub named : IsErrOf result Failed → now.last ≡ name
  pub memory : IsErrOf result Memory → now ≡ before
  pub kept : OnOk result (now ≡ before)
