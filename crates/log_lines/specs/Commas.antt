-- Numbers, each behind a comma.
use Rattle.std.specs.Prelude.{ℕ, List, ◌∷◌, decimal}

abbrev pub behind_comma : ℕ → List ℕ
behind_comma n = 44 ∷ decimal n
