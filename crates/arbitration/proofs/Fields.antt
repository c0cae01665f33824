-- The number of a field of arbitration bits, by its parts.
use Rattle.std.proofs.Common.{◌≡◌, ℕ, zero, suc, ◌+◌, ◌*◌, ◌/◌, ◌%◌, ◌^◌, ◌<◌, Bool, true, false, cond, List, [], ◌∷◌, ◌++◌, length, eqb, ◌&&◌, refl, sym, ap, ◌∙◌, subst, arith}
use Rattle.std.proofs.Math.Nat.{add-mul}
use Rattle.std.proofs.lemmas.Nat.{pow-add, mod-pow-add}
use Rattle.std.proofs.lemmas.Bool.{false≢true}
use Rattle.std.proofs.lemmas.Bool.Decides.{nat_tests}
use Rattle.frame_specs.specs.Bits.{number_bits}
use Rattle.frame_specs.specs.Wire.{arbitration_field, remote_bit}
use Rattle.frame_specs.specs.Frame.{Frame, is_well_formed, identifier_fits, remote_fits, length_fits}
use Rattle.arbitration.specs.Key.{number_of, key_of, base_number, extended_number}

-- a digit of 0 or 1 in front of the others
front_digit : (d p q t r rest : ℕ) → d < 2 → t ≡ p * q → cond (eqb d 1) t 0 + (r * q + rest) ≡ (d * p + r) * q + rest
front_digit zero p q t r rest h e = omega arith
front_digit (suc zero) p q t r rest h e = let s = add-mul p r q in omega arith
front_digit (suc (suc d)) p q t r rest h e = absurd (omega arith)

mod-pow-suc : (n k : ℕ) → n % 2 ^ suc k ≡ (n / 2 ^ k % 2) * 2 ^ k + n % 2 ^ k
mod-pow-suc n k =
    let e : 1 + k ≡ suc k = omega arith in
    subst (λ (j : ℕ). n % 2 ^ j ≡ (n / 2 ^ k % 2) * 2 ^ k + n % 2 ^ k) e (mod-pow-add n 1 k)

-- the low k bits of a number, in front of others
pub number_of-front : (k m w n : ℕ) (rest : List Bool) → w ≡ k + m → number_of w (number_bits k n ++ rest) ≡ (n % 2 ^ k) * 2 ^ m + number_of m rest
unfolding number_of
number_of-front zero m w n rest e =
    let h : w ≡ m = omega arith in
    let r : n % 1 ≡ 0 = omega arith in
    ap (λ (j : ℕ). number_of j rest) h ∙ (rw r (omega arith))
number_of-front (suc k) m zero n rest e = absurd (omega arith)
number_of-front (suc k) m (suc w) n rest e =
    let h : w ≡ k + m = omega arith in
    let t : 2 ^ w ≡ 2 ^ k * 2 ^ m = ap (λ (j : ℕ). 2 ^ j) h ∙ pow-add 2 k m in
    rw (number_of-front k m w n rest h, mod-pow-suc n k) (front_digit (n / 2 ^ k % 2) (2 ^ k) (2 ^ m) (2 ^ w) (n % 2 ^ k) (number_of m rest) (omega arith) t)

number_of-ends : (w : ℕ) → number_of w [] ≡ 0
unfolding number_of
number_of-ends w = refl

number_of-recessive : (w : ℕ) (bits : List Bool) → number_of (suc w) (true ∷ bits) ≡ 2 ^ w + number_of w bits
unfolding number_of
number_of-recessive w bits = refl

number_of-bit : (w : ℕ) (b : Bool) (bits : List Bool) → number_of (suc w) (b ∷ bits) ≡ cond b 1 0 * 2 ^ w + number_of w bits
unfolding number_of
number_of-bit w true bits = omega arith
number_of-bit w false bits = omega arith

-- a base frame's identifier stands above its RTR and IDE
pub base_field : (n : ℕ) (r : Bool) → n < 2 ^ 11 → number_of 32 (arbitration_field false n r) ≡ base_number n r
base_field n r h =
    let ide = number_of-bit 19 false [] in
    let rtr = number_of-bit 20 r (false ∷ []) in
    let e = number_of-ends 19 in
    number_of-front 11 21 32 n (r ∷ false ∷ []) refl ∙ omega arith

-- an extended frame's parts
pub extended_field : (n : ℕ) (r : Bool) → n < 2 ^ 29
    → number_of 32 (arbitration_field true n r) ≡ extended_number n r
extended_field n r h =
    let low = number_bits 18 n ++ r ∷ [] in
    let rtr = number_of-bit 0 r [] in
    let e = number_of-ends 0 in
    let behind = number_of-front 18 1 19 n (r ∷ []) refl in
    let ide = number_of-recessive 19 low in
    let srr = number_of-recessive 20 (true ∷ low) in
    number_of-front 11 21 32 (n / 2 ^ 18) (true ∷ true ∷ low) refl ∙ omega arith

-- a well-formed identifier has 11 or 29 bits
base_fits : (e : Bool) (n : ℕ) (a b : Bool) → e ≡ false → (identifier_fits e n && a && b) ≡ true → n < 2 ^ 11
base_fits true n a b x h = absurd (false≢true (sym x))
base_fits false n a b x h = grind (arith, nat_tests)

extended_fits : (e : Bool) (n : ℕ) (a b : Bool) → e ≡ true → (identifier_fits e n && a && b) ≡ true → n < 2 ^ 29
extended_fits false n a b x h = absurd (false≢true x)
extended_fits true n a b x h = grind (arith, nat_tests)

from_field : (f : Frame) (e : Bool) (n : ℕ) (r : Bool) → f.ext ≡ e → n ≡ f.id → r ≡ remote_bit f.kind → number_of 32 (arbitration_field e n r) ≡ key_of f
unfolding key_of
from_field f e n r x i k = rw (← x, i, k) refl

-- the key of a well-formed frame, by its parts
pub key_of-base : (f : Frame) (n : ℕ) (r : Bool) → is_well_formed f ≡ true → f.ext ≡ false → n ≡ f.id → r ≡ remote_bit f.kind
    → base_number n r ≡ key_of f
key_of-base f n r w x i k =
    let h = base_fits f.ext f.id (remote_fits f.kind (length f.bytes)) (length_fits f.kind (length f.bytes)) x w in
    sym (base_field n r (omega arith)) ∙ from_field f false n r x i k

pub key_of-extended : (f : Frame) (n : ℕ) (r : Bool) → is_well_formed f ≡ true → f.ext ≡ true → n ≡ f.id → r ≡ remote_bit f.kind
    → extended_number n r ≡ key_of f
key_of-extended f n r w x i k =
    let h = extended_fits f.ext f.id (remote_fits f.kind (length f.bytes)) (length_fits f.kind (length f.bytes)) x w in
    sym (extended_field n r (omega arith)) ∙ from_field f true n r x i k
