-- A number that is past its limit stays past it.
use Rattle.std.proofs.Common.{◌≡◌, ◌<◌, ℕ, suc, ◌+◌, ◌-◌, ◌*◌, true, false, List, [], ◌∷◌, length, get_or, drop, None, refl, ap, ◌∙◌, arith, drop-cons}
use Rattle.std.specs.Prelude.{option_and_then, if◌then◌else◌}
use Rattle.std.proofs.lemmas.Bool.Decides.{nat_tests}
use Rattle.plain_text.specs.Decimal.{digits_value, is_digit, within}

not_within : (low high n : ℕ) → high < n → within low high n ≡ None
not_within low high n over = grind (arith, nat_tests)

digits_over : (low high n : ℕ) (bs : List ℕ) → high < n → option_and_then (within low high) (digits_value n bs) ≡ None
digits_over low high n [] over = not_within low high n over
digits_over low high n (b ∷ bs) over =
    elim (is_digit b) as (λ v. option_and_then (within low high) (if v then digits_value (10 * n + (b - 48)) bs else None) ≡ None) [
      | true ↦ digits_over low high (10 * n + (b - 48)) bs (omega arith)
      | false ↦ refl
    ]

next_over : (low high n b : ℕ) (bs : List ℕ) → high < 10 * n + (b - 48) → option_and_then (within low high) (digits_value n (b ∷ bs)) ≡ None
next_over low high n b bs over =
    elim (is_digit b) as (λ v. option_and_then (within low high) (if v then digits_value (10 * n + (b - 48)) bs else None) ≡ None) [
      | true ↦ digits_over low high (10 * n + (b - 48)) bs over
      | false ↦ refl
    ]

-- the next digit takes it past the limit
pub digit_over : (low high n i : ℕ) (text : List ℕ) → i < length text → high < 10 * n + (get_or text i 0 - 48)
    → option_and_then (within low high) (digits_value n (drop i text)) ≡ None
digit_over low high n i text inside over =
    ap (λ bs. option_and_then (within low high) (digits_value n bs)) (drop-cons text i 0 inside) ∙ next_over low high n (get_or text i 0) (drop (suc i) text) over
