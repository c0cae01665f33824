-- What a shortest spelling is.
use Rattle.std.specs.Prelude.{ℕ, ◌≤◌, List, length}

-- it is a spelling, and no spelling is shorter
pub record IsShortest (Spelled : List ℕ → Type 0) (text : List ℕ) : Type 0 where
  pub spelled : Spelled text
  pub unbeaten : (other : List ℕ) → Spelled other → length text ≤ length other
