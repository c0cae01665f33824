-- Counts of bits.
use Rattle.std.proofs.Common.{◌≡◌, ℕ, zero, suc, ◌+◌, ◌-◌, ◌*◌, ◌<◌, ◌≤◌, [], ◌∷◌, refl, sym, ap, ◌∙◌, subst, arith}
use Rattle.std.specs.Prelude.{◌/◌, ◌%◌, ◌^◌, cond, not}
use Rattle.std.specs.List.{sum_by}
use Rattle.std.specs.Int.Count.{count_trailing_zeros, under}
use Rattle.std.proofs.lemmas.Nat.{mod_below, pow_pos, div-add-mod'}
use Rattle.std.proofs.lemmas.List.Sums.{sum_by-append}
use Rattle.code_specs.specs.Integers.{ibits, is_zero, iclz, ictz, ipopcnt}
use Rattle.wasm_num.proofs.CountedBits.{found, last_bit, twice, ctz_is}
use Rattle.number_laws.specs.Digits.{digit_sum}

-- ---- leading zeros

no_bit : (m : ℕ) → 2 ^ m ≤ 2 * 0 + 1 → m ≡ 0
no_bit zero le = refl
no_bit (suc m) le = (let t = twice m in let some = pow_pos m in absurd (omega (arith, le, t, some)))

pub none_leads : (n : ℕ) → iclz n 0 ≡ n
unfolding iclz
none_leads n = (let l = found n 0 (pow_pos n) in let w = l.whole in let m = no_bit l.m l.reached in omega (arith, w, m))

pub size_below : (n i : ℕ) → i < 2 ^ n → i < 2 ^ (n - iclz n i)
unfolding iclz
size_below n i lt =
    let l = found n i lt in
    let w = l.whole in
    let m : l.m ≡ n - iclz n i = omega (arith, w) in
    subst (λ (x : ℕ). i < 2 ^ x) m l.below

half_reached : (m i : ℕ) → 0 < i → i < 2 ^ m → 2 ^ m ≤ 2 * i + 1 → 2 ^ m ≤ 2 * i
half_reached zero i p lt le = absurd (omega (arith, p, lt))
half_reached (suc m) i p lt le = (let t = twice m in omega (arith, le, t))

pub size_reached : (n i : ℕ) → 0 < i → i < 2 ^ n → 2 ^ (n - iclz n i) ≤ 2 * i
unfolding iclz
size_reached n i p lt =
    let l = found n i lt in
    let w = l.whole in
    let m : l.m ≡ n - iclz n i = omega (arith, w) in
    subst (λ (x : ℕ). 2 ^ x ≤ 2 * i) m (half_reached l.m i p l.below l.reached)

-- ---- trailing zeros

all_trail : (n : ℕ) → count_trailing_zeros n 0 ≡ n
unfolding count_trailing_zeros
all_trail zero = refl
all_trail (suc n) = ap suc (all_trail n)

pub none_trails : (n : ℕ) → ictz n 0 ≡ n
none_trails n = sym (ctz_is n 0) ∙ all_trail n

abbrev OddTimes : (i c : ℕ) → Type 0
OddTimes i c = (k : ℕ) × (i ≡ (2 * k + 1) * 2 ^ c)

doubled_odd : (k x : ℕ) → (2 * k + 1) * x * 2 ≡ (2 * k + 1) * (2 * x)
doubled_odd k x = omega arith

by_digit : (n i d : ℕ) → i % 2 ≡ d → 0 < i → i < 2 ^ suc n → (0 < i / 2 → i / 2 < 2 ^ n → OddTimes (i / 2) (count_trailing_zeros n (i / 2)))
    → OddTimes i (under d (count_trailing_zeros n (i / 2)))
by_digit n i zero e p lt rest =
    let parts = div-add-mod' i 2 in
    let t = twice n in
    let r = rest (omega (arith, parts, e, p)) (omega (arith, parts, e, lt, t)) in
    let c = count_trailing_zeros n (i / 2) in
    let even : i ≡ i / 2 * 2 = omega (arith, parts, e) in
    (r.0, even ∙ ap (λ (x : ℕ). x * 2) r.1 ∙ doubled_odd r.0 (2 ^ c) ∙ ap (λ (x : ℕ). (2 * r.0 + 1) * x) (sym (twice c)))
by_digit n i (suc zero) e p lt rest = (let parts = div-add-mod' i 2 in (i / 2, omega (arith, parts, e)))
by_digit n i (suc (suc d)) e p lt rest = (let b = mod_below i 2 (omega arith) in absurd (omega (arith, b, e)))

odd_times : (n i : ℕ) → 0 < i → i < 2 ^ n → OddTimes i (count_trailing_zeros n i)
unfolding count_trailing_zeros
odd_times zero i p lt = absurd (omega (arith, p, lt))
odd_times (suc n) i p lt = by_digit n i (i % 2) refl p lt (odd_times n (i / 2))

pub odd_part : (n i : ℕ) → 0 < i → i < 2 ^ n → (k : ℕ) × (i ≡ (2 * k + 1) * 2 ^ ictz n i)
odd_part n i p lt = subst (OddTimes i) (ctz_is n i) (odd_times n i p lt)

-- ---- ones

digit_is : (d : ℕ) → d < 2 → cond (not (is_zero d)) 1 0 ≡ d
digit_is zero lt = refl
digit_is (suc zero) lt = refl
digit_is (suc (suc d)) lt = absurd (omega (arith, lt))

pub ones_are : (n i : ℕ) → ipopcnt n i ≡ digit_sum n i
unfolding ipopcnt ibits
ones_are zero i = refl
ones_are (suc n) i =
    let one = digit_is (i % 2) (mod_below i 2 (omega arith)) in
    let rest = ones_are n (i / 2) in
    ap (sum_by (λ d. cond (not (is_zero d)) 1 0)) (last_bit n i)
    ∙ sum_by-append (λ d. cond (not (is_zero d)) 1 0) (ibits n (i / 2)) (i % 2 ∷ [])
    ∙ omega (arith, one, rest)
