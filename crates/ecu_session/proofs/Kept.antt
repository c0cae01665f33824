-- The changes of clocks whose due moments stay.
use Rattle.std.proofs.Common.{◌≡◌, ℕ, zero, suc, List, ◌∷◌, map, replicate, refl, ap}
use Rattle.session_specs.specs.Outcome as outcome
use Rattle.ecu_session.specs.declared.dues.DueChange.TheVariants.{Keep}
use Rattle.ecu_session.specs.Words.{due_change_of}

pub kept_of : (n : ℕ) → map due_change_of (replicate n Keep) ≡ replicate n outcome.Keep
kept_of zero = refl
kept_of (suc n) = ap (λ (xs : List outcome.DueChange). outcome.Keep ∷ xs) (kept_of n)
