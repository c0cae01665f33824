-- A sublist is no longer than the whole.
use Rattle.std.proofs.Common.{◌≡◌, ◌≤◌, ◌==◌, ℕ, Bool, true, false, List, [], ◌∷◌, length, if◌then◌else◌, arith}
use Rattle.session_specs.specs.Session.{is_sublist}

ticked_by : (clock : ℕ) (rest : List ℕ) (first : ℕ) (others : List ℕ) (b : Bool)
    → (if b then is_sublist others rest else is_sublist (first ∷ others) rest) ≡ true
    → (is_sublist others rest ≡ true → length others ≤ length rest)
    → (is_sublist (first ∷ others) rest ≡ true → length (first ∷ others) ≤ length rest)
    → length (first ∷ others) ≤ length (clock ∷ rest)
ticked_by clock rest first others true h one two = omega (arith, one h)
ticked_by clock rest first others false h one two = omega (arith, two h)

pub ticks_few : (clocks ticked : List ℕ) → is_sublist ticked clocks ≡ true → length ticked ≤ length clocks
ticks_few clocks [] h = omega arith
ticks_few [] (first ∷ others) h = absurd cc
ticks_few (clock ∷ rest) (first ∷ others) h = ticked_by clock rest first others (first == clock) h (ticks_few rest others) (ticks_few rest (first ∷ others))
