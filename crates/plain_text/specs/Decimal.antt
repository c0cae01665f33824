-- Decimal numbers in a text.
use Rattle.std.specs.Prelude.{◌≡◌, ◌≤◌, ℕ, ◌+◌, ◌-◌, ◌*◌, ◌==◌, ◌&&◌, Bool, List, [], ◌∷◌, Option, Some, None, option_and_then, if◌then◌else◌, nat_le, codes, refl}

abbrev pub is_digit : ℕ → Bool
is_digit b = nat_le 48 b && nat_le b 57

-- the number so far, with more decimal digits behind it
abbrev pub digits_value : ℕ → List ℕ → Option ℕ
digits_value n [] = Some n
digits_value n (b ∷ bs) = if is_digit b then digits_value (10 * n + (b - 48)) bs else None

-- a decimal number with no sign and no leading zero
unfoldable pub number_of : List ℕ → Option ℕ
number_of [] = None
number_of (b ∷ []) = digits_value 0 (b ∷ [])
number_of (b ∷ c ∷ bs) = if b == 48 then None else digits_value 0 (b ∷ c ∷ bs)

-- from a lowest number to a highest one
abbrev pub Between : ℕ → ℕ → ℕ → Type 0
Between low high n = (low ≤ n) × (n ≤ high)

abbrev pub within : ℕ → ℕ → ℕ → Option ℕ
within low high n = if nat_le low n && nat_le n high then Some n else None

-- such a number in a range
unfoldable pub number_in : ℕ → ℕ → List ℕ → Option ℕ
number_in low high text = option_and_then (within low high) (number_of text)

number_of-spelled : number_of (codes "1024") ≡ Some 1024
unfolding number_of
number_of-spelled = refl

number_of-zero : number_of (codes "0") ≡ Some 0
unfolding number_of
number_of-zero = refl

number_of-nothing : number_of [] ≡ None
unfolding number_of
number_of-nothing = refl

number_of-leading_zero : number_of (codes "01") ≡ None
unfolding number_of
number_of-leading_zero = refl

number_of-sign : number_of (codes "+1") ≡ None
unfolding number_of
number_of-sign = refl

number_in-below : number_in 1 1000 (codes "0") ≡ None
unfolding number_in number_of
number_in-below = refl

number_in-above : number_in 1 1000 (codes "1001") ≡ None
unfolding number_in number_of
number_in-above = refl
