-- What the calls of a queue may cost: bounds in the number of entries that are set.
use Rattle.std.specs.Prelude.{◌≡◌, ℕ, ◌+◌, ◌*◌, List, length, Option, None, Some, [], ◌∷◌, refl}
use Rattle.std.specs.Int.Digits.{digits_of}
use Rattle.clock_queue.specs.Dues.{pending}

-- how many entries are set
abbrev pub set_count : {D : Type 0} → List (Option D) → ℕ
set_count dues = length (pending dues)

-- how many binary digits a number has; 0 has none
unfoldable pub binary_digits : ℕ → ℕ
binary_digits n = length (digits_of 2 n)

-- what a taking of so many entries out of n may cost
abbrev pub taking_cost : ℕ → ℕ → ℕ
taking_cost taken n = 2 * taken * binary_digits n + taken + 1

three_of_four : {D : Type 0} (x y z : D) → set_count (Some x ∷ None ∷ Some y ∷ Some z ∷ []) ≡ 3
three_of_four x y z = refl

-- 4 is 100, and 7 is 111
digits_of_four : binary_digits 4 ≡ 3
unfolding binary_digits
digits_of_four = refl

digits_of_seven : binary_digits 7 ≡ 3
unfolding binary_digits
digits_of_seven = refl

digits_of_none : binary_digits 0 ≡ 0
unfolding binary_digits
digits_of_none = refl

two_of_four : taking_cost 2 4 ≡ 15
unfolding binary_digits
two_of_four = refl
