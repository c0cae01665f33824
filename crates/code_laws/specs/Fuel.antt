-- What the laws say of fuel.
use Rattle.std.specs.Prelude.{◌≡◌, ℕ, ◌+◌}
use Rattle.code_specs.specs.Execution.{Answer, Returned, Trapped, Spent, Stuck, fuel_left}

-- the answer with so much fuel left instead
abbrev pub with_left : {V : Type 0} → ℕ → Answer V → Answer V
with_left n (Returned vs s fuel) = Returned vs s n
with_left n (Trapped kind s fuel) = Trapped kind s n
with_left n (Spent s) = Spent s
with_left n Stuck = Stuck

-- the call came to an end of its own: it returned or trapped
abbrev pub Ends : {V : Type 0} → Answer V → Type 0
Ends (Returned vs s fuel) = Unit {0}
Ends (Trapped kind s fuel) = Unit {0}
Ends (Spent s) = ⊥
Ends Stuck = ⊥

-- with this much fuel the call uses so much of it, and with any that is as much or more it gives the same and uses the same
pub record Uses {V : Type 0} (call : ℕ → Answer V) (fuel : ℕ) : Type 0 where
  pub used : ℕ
  pub counted : fuel ≡ used + fuel_left (call fuel)
  pub same : (left : ℕ) → call (used + left) ≡ with_left left (call fuel)
