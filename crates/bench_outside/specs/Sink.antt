-- What a write to a sink appends, and how writes are counted.
use Rattle.std.specs.Prelude.{◌≡◌, ℕ, List, [], ◌∷◌, ◌++◌, Option, Some, None, option_map, refl}
use Rattle.bench_outside.specs.Causes.{count_after}

-- these bytes stand behind what was written before, where the sink tells what was written
abbrev pub Appended : Option (List ℕ) → Option (List ℕ) → List ℕ → Type 0
Appended old new bytes = new ≡ option_map (λ written. written ++ bytes) old

-- a first part: with some rest behind it, it is the whole
abbrev pub IsPrefix : List ℕ → List ℕ → Type 0
IsPrefix part whole = (rest : List ℕ) × (whole ≡ part ++ rest)

-- some first part of these bytes stands behind what was written before
abbrev pub AppendedPart : Option (List ℕ) → Option (List ℕ) → List ℕ → Type 0
AppendedPart old new bytes = (part : List ℕ) × IsPrefix part bytes × Appended old new part

-- so many more writes were made, where the sink counts them
abbrev pub Counted : Option ℕ → Option ℕ → ℕ → Type 0
Counted old new more = new ≡ option_map (λ count. count_after count more) old

two_bytes_behind_one : Appended (Some (1 ∷ [])) (Some (1 ∷ 2 ∷ 3 ∷ [])) (2 ∷ 3 ∷ [])
two_bytes_behind_one = refl

two_writes_after_three : Counted (Some 3) (Some 5) 2
two_writes_after_three = refl

untold_writes : Counted None None 2
untold_writes = refl
