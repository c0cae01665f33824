-- Quotients and remainders.
use Rattle.std.proofs.Common.{◌≡◌, ℕ, zero, suc, ◌-◌, ◌<◌, refl, sym, ap, ◌∙◌, subst, arith, Bool}
use Rattle.std.specs.Prelude.{◌/◌, ◌%◌, ◌^◌, ℤ, pos, negsuc, neg_ℤ, ◌+ℤ◌, ◌*ℤ◌, int_div, int_rem, int_le, unsigned_abs, IsTrue, Ok, Err, if◌then◌else◌}
use Rattle.std.specs.Int.Signed.{mag_rem}
use Rattle.std.proofs.Math.Dec.{leb-zero}
use Rattle.std.proofs.lemmas.Bool.{lt-ltb, le-ltb}
use Rattle.std.proofs.lemmas.Nat.{mod_below, div-add-mod', pow_pos}
use Rattle.std.proofs.lemmas.Int.{quot-rem, rem_below}
use Rattle.code_specs.specs.declared.trap.NumTrap.TheVariants.{Overflow}
use Rattle.code_specs.specs.Integers.{signed, unsigned, idiv_s, irem_s, quotient}
use Rattle.wasm_num.proofs.Signs.{quotient_size, neg_size, quotient_is, by_minus_one, signed_high, halves}
use Rattle.number_laws.specs.Quotients.{IsSigned, HasSignOf, IsDivided, IsDividedSigned}
use Rattle.number_laws.proofs.Signed.{Reading, Plain, Under, reading, sized, from_size, reads_signed, number_back, signed_back}

pub divided : (i j : ℕ) → 0 < j → IsDivided i j
divided i zero p = absurd (omega (arith, p))
divided i (suc j) p = record {
  quotient = i / suc j;
  remainder = i % suc j;
  is_quotient = refl;
  is_remainder = refl;
  whole = div-add-mod' i (suc j);
  below = mod_below i (suc j) p;
}

quotient_within : (n : ℕ) (z : ℤ) → IsSigned n z → quotient n z ≡ Ok (unsigned n z)
quotient_within n (pos a) h =
    ap (λ (b : Bool). if b then Ok (unsigned n (pos a)) else Err Overflow) (lt-ltb a (2 ^ (n - 1)) h)
quotient_within n (negsuc a) h = refl

remainder_is : (n i j : ℕ) → 0 < j → irem_s n i j ≡ Ok (unsigned n (int_rem (signed n i) (signed n j)))
remainder_is n i zero p = absurd (omega (arith, p))
remainder_is n i (suc j) p = refl

not_positive : (m : ℕ) → IsTrue (int_le (neg_ℤ (pos m)) (pos 0))
not_positive zero = leb-zero 0
not_positive (suc m) = refl

sign_kept : (s d : ℤ) → HasSignOf s (int_rem s d)
sign_kept (pos a) d = leb-zero (a % unsigned_abs d)
sign_kept (negsuc a) d = not_positive (suc a % unsigned_abs d)

not_none : (n j : ℕ) → 0 < j → Reading n j → 0 < unsigned_abs (signed n j)
not_none n j p (Plain low e) = subst (λ (z : ℤ). 0 < unsigned_abs z) (sym e) p
not_none n j p (Under u low sum e) = subst (λ (z : ℤ). 0 < unsigned_abs z) (sym e) (omega arith)

neg_number : (n h : ℕ) → 0 < h → unsigned n (neg_ℤ (pos h)) ≡ 2 ^ n - h
neg_number n zero p = absurd (omega (arith, p))
neg_number n (suc h) p = refl

plain_is_not : (j u : ℕ) → ¬ (pos j ≡ negsuc u)
plain_is_not j u e = cc

under_is_not : (u : ℕ) → ¬ (negsuc (suc u) ≡ negsuc 0)
under_is_not u e = cc

abbrev NotLeastByMinusOne : (n i j : ℕ) → Type 0
NotLeastByMinusOne n i j = ¬ ((i ≡ 2 ^ (n - 1)) × (j ≡ 2 ^ n - 1))

quotient_fits : (n i j : ℕ) → 0 < n → i < 2 ^ n → NotLeastByMinusOne n i j → Reading n j → IsSigned n (int_div (signed n i) (signed n j))
quotient_fits n i j p lt other (Plain low e) =
    from_size n (int_div (signed n i) (signed n j))
    (quotient_size (2 ^ (n - 1)) (signed n i) (signed n j) (sized n (signed n i) (reads_signed n i p lt)) (λ m. plain_is_not j 0 (sym e ∙ m)))
quotient_fits n i j p lt other (Under zero low sum e) =
    let s = signed n i in
    let two = halves n p in
    let not_least : ¬ (s ≡ neg_ℤ (pos (2 ^ (n - 1)))) = λ m.
    (let least : i ≡ 2 ^ n - 2 ^ (n - 1) = sym (number_back n i p lt) ∙ ap (unsigned n) m ∙ neg_number n (2 ^ (n - 1)) (pow_pos (n - 1)) in
    other (omega (arith, least, two), omega (arith, sum))) in
    let turned : int_div s (signed n j) ≡ neg_ℤ s = ap (int_div s) e ∙ by_minus_one s in
    subst (IsSigned n) (sym turned) (from_size n (neg_ℤ s) (neg_size (2 ^ (n - 1)) s (sized n s (reads_signed n i p lt)) not_least))
quotient_fits n i j p lt other (Under (suc u) low sum e) =
    from_size n (int_div (signed n i) (signed n j))
    (quotient_size (2 ^ (n - 1)) (signed n i) (signed n j) (sized n (signed n i) (reads_signed n i p lt)) (λ m. under_is_not u (sym e ∙ m)))

remainder_fits : (n i j : ℕ) → 0 < n → i < 2 ^ n → IsSigned n (int_rem (signed n i) (signed n j))
remainder_fits n i j p lt =
    let a = mag_rem (signed n i) (signed n j) in
    let b = sized n (signed n i) (reads_signed n i p lt) in
    from_size n (int_rem (signed n i) (signed n j)) (omega (arith, a, b))

pub signed_divided : (n i j : ℕ) → 0 < n → i < 2 ^ n → 0 < j → j < 2 ^ n → ¬ ((i ≡ 2 ^ (n - 1)) × (j ≡ 2 ^ n - 1)) → IsDividedSigned n i j
signed_divided n i j p li q lj other =
    let s = signed n i in
    let d = signed n j in
    let by = reading n j p lj in
    let whole_fits = quotient_fits n i j p li other by in
    let back = signed_back n (int_div s d) p whole_fits in
    let back' = signed_back n (int_rem s d) p (remainder_fits n i j p li) in
    record {
      quotient = unsigned n (int_div s d);
      remainder = unsigned n (int_rem s d);
      is_quotient = quotient_is n i j q ∙ quotient_within n (int_div s d) whole_fits;
      is_remainder = remainder_is n i j q;
      whole = ap (λ (z : ℤ). z *ℤ d +ℤ signed n (unsigned n (int_rem s d))) back
          ∙ ap (λ (z : ℤ). int_div s d *ℤ d +ℤ z) back' ∙ quot-rem s d;
      below = subst (λ (z : ℤ). unsigned_abs z < unsigned_abs d) (sym back') (rem_below s d (not_none n j q by));
      sign = subst (HasSignOf s) (sym back') (sign_kept s d);
    }

-- ---- the least number and -1

least_is : (n : ℕ) → 0 < n → signed n (2 ^ (n - 1)) ≡ negsuc (2 ^ (n - 1) - 1)
least_is n p =
    let two = halves n p in
    let some = pow_pos (n - 1) in
    signed_high n (2 ^ (n - 1)) (2 ^ (n - 1) - 1) (omega arith) (omega (arith, two, some))

minus_one_is : (n : ℕ) → 0 < n → signed n (2 ^ n - 1) ≡ negsuc 0
minus_one_is n p =
    let two = halves n p in
    let some = pow_pos (n - 1) in
    signed_high n (2 ^ n - 1) 0 (omega (arith, two, some)) (omega (arith, two, some))

some_divisor : (n : ℕ) → 0 < n → 0 < 2 ^ n - 1
some_divisor n p = (let two = halves n p in let some = pow_pos (n - 1) in omega (arith, two, some))

too_large : (n : ℕ) → quotient n (pos (2 ^ (n - 1))) ≡ Err Overflow
too_large n =
    let h = 2 ^ (n - 1) in
    ap (λ (b : Bool). if b then Ok (unsigned n (pos h)) else Err Overflow) (le-ltb h h (omega arith))

pub least_overflows : (n : ℕ) → 0 < n → idiv_s n (2 ^ (n - 1)) (2 ^ n - 1) ≡ Err Overflow
least_overflows n p =
    let some = pow_pos (n - 1) in
    let size : suc (2 ^ (n - 1) - 1) / 1 ≡ 2 ^ (n - 1) = omega (arith, some) in
    quotient_is n (2 ^ (n - 1)) (2 ^ n - 1) (some_divisor n p)
    ∙ ap (λ (z : ℤ). quotient n (int_div z (signed n (2 ^ n - 1)))) (least_is n p)
    ∙ ap (λ (z : ℤ). quotient n (int_div (negsuc (2 ^ (n - 1) - 1)) z)) (minus_one_is n p)
    ∙ ap (λ (q : ℕ). quotient n (pos q)) size ∙ too_large n

pub least_remains : (n : ℕ) → 0 < n → irem_s n (2 ^ (n - 1)) (2 ^ n - 1) ≡ Ok 0
least_remains n p =
    let r : suc (2 ^ (n - 1) - 1) % 1 ≡ 0 = (let b = mod_below (suc (2 ^ (n - 1) - 1)) 1 (omega arith) in omega (arith, b)) in
    remainder_is n (2 ^ (n - 1)) (2 ^ n - 1) (some_divisor n p)
    ∙ ap (λ (z : ℤ). Ok (unsigned n (int_rem z (signed n (2 ^ n - 1))))) (least_is n p)
    ∙ ap (λ (z : ℤ). Ok (unsigned n (int_rem (negsuc (2 ^ (n - 1) - 1)) z))) (minus_one_is n p)
    ∙ ap (λ (m : ℕ). Ok (unsigned n (neg_ℤ (pos m)))) r
