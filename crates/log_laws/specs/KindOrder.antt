-- In which order things happen at one moment.
use Rattle.std.specs.Prelude.{◌≡◌, ◌≤◌, ℕ, List, ◌∷◌, ◌++◌}
use Rattle.log_specs.specs.Line.{Line, On, Told, Start, LostKept, LostGone, Back, State, Done, Fail, Hurt}

-- the end of a frame, returns, lines of nodes, a start
abbrev pub rank_told : Told → ℕ
rank_told (Done f receivers) = 0
rank_told (Fail f kind by) = 0
rank_told (Hurt kind) = 0
rank_told (State level) = 0
rank_told Back = 1
rank_told (Start f) = 3
rank_told (LostKept f) = 3
rank_told (LostGone f) = 3
rank_told other = 2

-- Of two lines at one moment the one that comes first is of no later kind.
abbrev pub KindsInOrder : List Line → Type 0
KindsInOrder lines = (before rest : List Line) (t b n c m : ℕ) (first second : Told) → lines ≡ before ++ On t b n first ∷ On t c m second ∷ rest
    → rank_told first ≤ rank_told second
