-- The parts of a value that several units share, and what a unit leaves of the others' parts.
-- A shared value is seen through `part`: the content of the part with a number, or None where
-- there is no such part.
use Rattle.std.specs.Prelude.{◌≡◌, ℕ, List, [], ◌∷◌, Option, ◌⊎◌}

-- the part is one of these
abbrev pub Among : ℕ → List ℕ → Type 0
Among part [] = ⊥
Among part (first ∷ others) = (part ≡ first) ⊎ Among part others

-- every part but these is as it was
pub record Spares {G : Type 0} (part : ℕ → G → Option (List ℕ)) (own : List ℕ)
    (old new : G) : Type 0 where
  pub each : (p : ℕ) → ¬ Among p own → part p new ≡ part p old

-- each of these parts is the same in both
abbrev pub Shares : {G : Type 0} → (ℕ → G → Option (List ℕ)) → List ℕ → G → G → Type 0
Shares part own old new = (p : ℕ) → Among p own → part p new ≡ part p old

-- no part is one of both
pub record AreDisjoint (own other : List ℕ) : Type 0 where
  pub each : (p : ℕ) → Among p own → ¬ Among p other
