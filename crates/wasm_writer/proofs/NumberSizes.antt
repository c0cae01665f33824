-- How many bytes a written number has.
use Rattle.std.proofs.Common.{◌≡◌, ℕ, zero, suc, ◌+◌, ◌/◌, ◌<◌, ◌≤◌, ◌^◌, ℤ, Bool, true, false, cond, [], ◌∷◌, length, ap, arith, zero-le}
use Rattle.leb_bytes.specs.Spelling.{FitsBits}
use Rattle.leb_bytes.specs.Writing.{shortest, is_narrow_unsigned, low_unsigned, high_unsigned, is_narrow_signed, low_signed, high_signed, unsigned_text, signed_text}
use Rattle.leb_bytes.proofs.Splitting.{unsigned_one, unsigned_more, signed_one, signed_more}

at_most : {A : Type 0} (is_narrow : A → Bool) (low : A → ℕ) (high : A → A) (most : ℕ) (n : A) → length (shortest is_narrow low high most n) ≤ most
unfolding shortest
at_most is_narrow low high zero n = zero-le
at_most is_narrow low high (suc most) n = by_test (is_narrow n) (at_most is_narrow low high most (high n))
  where
    by_test : (t : Bool) → length (shortest is_narrow low high most (high n)) ≤ most
        → length (cond t (low n ∷ []) ((128 + low n) ∷ shortest is_narrow low high most (high n))) ≤ suc most
    by_test true ih = omega arith
    by_test false ih = omega arith

pub unsigned_most : (n : ℕ) → length (unsigned_text n) ≤ 10
unsigned_most n = at_most is_narrow_unsigned low_unsigned high_unsigned 10 n

pub signed_most : (z : ℤ) → length (signed_text z) ≤ 10
signed_most z = at_most is_narrow_signed low_signed high_signed 10 z

pub unsigned_length_one : (n : ℕ) → n < 128 → length (unsigned_text n) ≡ 1
unsigned_length_one n small = ap length (unsigned_one n small)

pub unsigned_length_more : (n : ℕ) → n < 2 ^ 64 → 128 ≤ n → length (unsigned_text n) ≡ 1 + length (unsigned_text (n / 128))
unsigned_length_more n fits large = let e = ap length (unsigned_more n fits large) in omega arith

pub signed_length_one : (z : ℤ) → is_narrow_signed z ≡ true → length (signed_text z) ≡ 1
signed_length_one z narrow = ap length (signed_one z narrow)

pub signed_length_more : (z : ℤ) → FitsBits 64 z → is_narrow_signed z ≡ false → length (signed_text z) ≡ 1 + length (signed_text (high_signed z))
signed_length_more z fits wide = let e = ap length (signed_more z fits wide) in omega arith
