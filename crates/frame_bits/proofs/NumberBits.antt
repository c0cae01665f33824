-- Bits of a number: one by one, and of two numbers that are put together.
use Rattle.std.proofs.Common.{◌≡◌, ◌<◌, ◌≤◌, ◌-◌, ◌+◌, ◌*◌, ◌%◌, ◌/◌, ◌^◌, ◌==◌, ℕ, zero, suc, List, ◌∷◌, ◌++◌, refl, sym, ap, ◌∙◌, arith, length, drop, get_or, add-one, drop-cons}
use Rattle.std.specs.Int.{bit_at}
use Rattle.std.proofs.lemmas.Nat.{shr_split, mod_below, pow_pos, pow_below, pow-add, mul-add-lt}
use Rattle.std.proofs.Math.Nat.{mul_comm}
use Rattle.std.proofs.lemmas.Nat.Bits.{bit_at_cat_low, bit_at_cat_high}
use Rattle.frame_specs.specs.Bits.{bit, number_bits, bytes_bits}

pub number_bits-front : (k v : ℕ) → 0 < k → number_bits k v ≡ bit v (k - 1) ∷ number_bits (k - 1) v
number_bits-front zero v h = absurd (omega arith)
number_bits-front (suc k) v h = let e : suc k - 1 ≡ k = omega arith in rw e refl

pub length-number_bits : (k v : ℕ) → length (number_bits k v) ≡ k
length-number_bits zero v = refl
length-number_bits (suc k) v = ap suc (length-number_bits k v)

-- the bits of the bytes from a place on: those of the byte there, and then the rest
pub bytes_bits-drop : (bytes : List ℕ) (i b : ℕ) → i < length bytes → b ≡ get_or bytes i 0
    → bytes_bits (drop i bytes) ≡ number_bits 8 b ++ bytes_bits (drop (i + 1) bytes)
bytes_bits-drop bytes i b h e =
    let cut : drop i bytes ≡ get_or bytes i 0 ∷ drop (i + 1) bytes = rw (add-one, drop-cons bytes i 0) refl in
    rw (cut, e) refl

-- a low bit is that of the number below
bit-low : (j k v x : ℕ) → j < k → bit (v * 2 ^ k + x % 2 ^ k) j ≡ bit x j
bit-low j k v x h =
    let whole : bit_at x j ≡ bit_at (x % 2 ^ k) j = ap (λ n. bit_at n j) (sym (shr_split x k)) ∙ bit_at_cat_low (x / 2 ^ k) k (x % 2 ^ k) j h in
    ap (λ n. n == 1) (bit_at_cat_low v k (x % 2 ^ k) j h ∙ sym whole)

low : (j k v x : ℕ) → j ≤ k → number_bits j (v * 2 ^ k + x % 2 ^ k) ≡ number_bits j x
low zero k v x h = refl
low (suc j) k v x h =
    let here : j < k = omega arith in
    let below : j ≤ k = omega arith in
    rw (bit-low j k v x here, low j k v x below) refl

bit-high : (w k v x : ℕ) → bit (v * 2 ^ k + x % 2 ^ k) (w + k) ≡ bit v w
bit-high w k v x =
    let above : k ≤ w + k = omega arith in
    let place : w + k - k ≡ w = omega arith in
    ap (λ n. n == 1) (bit_at_cat_high v k (x % 2 ^ k) (w + k) (mod_below x (2 ^ k) (pow_pos k)) above ∙ ap (bit_at v) place)

-- a number with k more bits below it
pub number_bits-cat : (w k v x : ℕ) → number_bits (w + k) (v * 2 ^ k + x % 2 ^ k) ≡ number_bits w v ++ number_bits k x
number_bits-cat zero k v x = let e : 0 + k ≡ k = omega arith in let same : k ≤ k = omega arith in rw e (low k k v x same)
number_bits-cat (suc w) k v x =
    let e : suc w + k ≡ suc (w + k) = omega arith in
    rw (e, bit-high w k v x, number_bits-cat w k v x) refl

pub cat-below : (w k v x : ℕ) → v < 2 ^ w → v * 2 ^ k + x % 2 ^ k < 2 ^ (w + k)
cat-below w k v x h =
    rw (pow-add 2 w k, mul_comm (2 ^ w) (2 ^ k)) (mul-add-lt v (2 ^ k) (x % 2 ^ k) (2 ^ w) h (mod_below x (2 ^ k) (pow_pos k)))

pub cat-fits : (w k v x : ℕ) → v < 2 ^ w → w + k ≤ 48 → v * 2 ^ k + x % 2 ^ k < 2 ^ 64
cat-fits w k v x h room =
    let wide : w + k < 64 = omega arith in
    omega (arith, cat-below w k v x h, pow_below (w + k) 64 wide)
