-- What sessions make of clock entries. No public clause cites this file.
use Rattle.std.specs.Prelude.{ℕ, List, [], ◌∷◌, ◌++◌, drop, Option, take}
use Rattle.session_specs.specs.Outcome.{DueChange}
use Rattle.world_specs.specs.Sessions.{clock_after}

-- the first entries by these changes, and then those behind them
abbrev pub changed : ℕ → List DueChange → List (Option ℕ) → List (Option ℕ)
changed now [] cs = cs
changed now (d ∷ ds) [] = []
changed now (d ∷ ds) (c ∷ cs) = clock_after now d c ∷ changed now ds cs

-- the same from this entry on
abbrev pub settled : ℕ → ℕ → List DueChange → List (Option ℕ) → List (Option ℕ)
settled now first ds cs = take first cs ++ changed now ds (drop first cs)
