-- Shifts that copy the sign, and rotations there and back.
use Rattle.std.proofs.Common.{◌≡◌, ℕ, suc, ◌+◌, ◌-◌, ◌*◌, ◌<◌, refl, sym, ap, ◌∙◌, subst, arith}
use Rattle.std.specs.Prelude.{◌/◌, ◌%◌, ◌^◌, ℤ, pos, negsuc}
use Rattle.std.specs.Int.{int_div_euclid}
use Rattle.std.specs.Int.Signed.{mag_shr, shr_z}
use Rattle.std.proofs.lemmas.Nat.{mod_below, pow-add, pow_pos, mod-mul-add, div-mul-add, div-add-mod', shr_below}
use Rattle.code_specs.specs.Integers.{signed, ishr_s, irotl, irotr}
use Rattle.code_laws.proofs.Shifts.{rotl_is, rotr_is}
use Rattle.wasm_num.proofs.Signs.{shr_s_word}
use Rattle.wasm_num.proofs.Turns.{moved}
use Rattle.number_laws.proofs.Signed.{sized, from_size, reads_signed, signed_back}

rounded_down : (z : ℤ) (m : ℕ) → shr_z z m ≡ int_div_euclid z (pos m)
rounded_down (pos a) m = refl
rounded_down (negsuc a) m = refl

pub shifted : (n i j : ℕ) → 0 < n → i < 2 ^ n → signed n (ishr_s n i j) ≡ int_div_euclid (signed n i) (pos (2 ^ (j % n)))
shifted n i j p lt =
    let z = shr_z (signed n i) (2 ^ (j % n)) in
    let a = mag_shr (signed n i) (2 ^ (j % n)) in
    let b = sized n (signed n i) (reads_signed n i p lt) in
    ap (signed n) (sym (shr_s_word n i j (j % n) p lt refl))
    ∙ signed_back n z p (from_size n z (omega (arith, a, b))) ∙ rounded_down (signed n i) (2 ^ (j % n))

-- a part below m, times w, and a part below w
joined_below : (hi lo m w : ℕ) → hi < m → lo < w → hi * w + lo < m * w
joined_below hi lo m w h l =
    let c = m - suc hi in
    let split : m ≡ hi + 1 + c = omega (arith, h) in
    let whole : m * w ≡ (hi + 1 + c) * w = ap (λ (x : ℕ). x * w) split in
    let spread : (hi + 1 + c) * w ≡ hi * w + w + c * w = omega arith in
    omega (arith, l, whole, spread)

-- what the upper k bits of a number are behind its lower r ones, and these turned once more
record Turned (i r k n x : ℕ) : Type 0 where
  below : x < 2 ^ n
  back : (x * 2 ^ r) % 2 ^ n + x / 2 ^ k ≡ i

turned : (i r k n x : ℕ) → r + k ≡ n → i < 2 ^ n → x ≡ (i * 2 ^ k) % 2 ^ n + i / 2 ^ r → Turned i r k n x
turned i r k n x e lt is =
    let hi = i % 2 ^ r in
    let lo = i / 2 ^ r in
    let other : k + r ≡ n = omega (arith, e) in
    let l : lo < 2 ^ k = shr_below i k r (subst (λ (m : ℕ). i < 2 ^ m) (sym other) lt) in
    let h : hi < 2 ^ r = mod_below i (2 ^ r) (pow_pos r) in
    let parts : x ≡ hi * 2 ^ k + lo = is ∙ ap (λ (m : ℕ). m + lo) (moved i r k n e) in
    let whole : 2 ^ r * 2 ^ k ≡ 2 ^ n = sym (pow-add 2 r k) ∙ ap (λ (m : ℕ). 2 ^ m) e in
    let b : hi * 2 ^ k + lo < 2 ^ r * 2 ^ k = joined_below hi lo (2 ^ r) (2 ^ k) h l in
    record {
      below = subst (λ (m : ℕ). m < 2 ^ n) (sym parts) (subst (λ (m : ℕ). hi * 2 ^ k + lo < m) whole b);
      back = ap (λ (m : ℕ). m + x / 2 ^ k) (moved x k r n other)
          ∙ ap (λ (m : ℕ). m % 2 ^ k * 2 ^ r + m / 2 ^ k) parts
          ∙ ap (λ (m : ℕ). m * 2 ^ r + (hi * 2 ^ k + lo) / 2 ^ k) (mod-mul-add hi (2 ^ k) lo l)
          ∙ ap (λ (m : ℕ). lo * 2 ^ r + m) (div-mul-add hi (2 ^ k) lo l)
          ∙ div-add-mod' i (2 ^ r);
    }

pub right_undoes : (n i j : ℕ) → 0 < n → i < 2 ^ n → irotr n (irotl n i j) j ≡ i
right_undoes n i j p lt =
    let k = j % n in
    let b = mod_below j n p in
    let e : n - k + k ≡ n = omega (arith, b) in
    let t = turned i (n - k) k n (irotl n i j) e lt (rotl_is n i j p lt) in
    rotr_is n (irotl n i j) j p t.below ∙ t.back

pub left_undoes : (n i j : ℕ) → 0 < n → i < 2 ^ n → irotl n (irotr n i j) j ≡ i
left_undoes n i j p lt =
    let k = j % n in
    let b = mod_below j n p in
    let e : k + (n - k) ≡ n = omega (arith, b) in
    let t = turned i k (n - k) n (irotr n i j) e lt (rotr_is n i j p lt) in
    rotl_is n (irotr n i j) j p t.below ∙ t.back
