-- Shifts and rotations of bits as products and quotients.
use Rattle.std.proofs.Common.{◌≡◌, ℕ, zero, suc, ◌+◌, ◌-◌, ◌*◌, ◌<◌, List, [], ◌∷◌, ◌++◌, length, refl, sym, ap, ◌∙◌, subst, arith}
use Rattle.std.specs.Prelude.{◌/◌, ◌%◌, ◌^◌, take, drop, replicate}
use Rattle.std.proofs.lemmas.Nat.{mod_below, pow-add, shr-shr, mod-pow-add, shr_below, div-mul-add, mod-mul-add}
use Rattle.std.proofs.lemmas.List.{length-append, length-replicate}
use Rattle.code_specs.specs.Integers.{ibits, number_of, ishl, ishr_u, irotl, irotr}

bits_length : (n i : ℕ) → length (ibits n i) ≡ n
unfolding ibits
bits_length zero i = refl
bits_length (suc n) i = ap suc (bits_length n i)

-- the bits of a number are those of the number
bits_number : (n i : ℕ) → number_of (ibits n i) ≡ i % 2 ^ n
unfolding ibits
bits_number zero i = (let below : i % 1 < 1 = mod_below i 1 (omega arith) in omega (arith, below))
bits_number (suc n) i =
    let one_more : i % 2 ^ (1 + n) ≡ i % 2 ^ suc n = ap (λ (x : ℕ). i % 2 ^ x) (omega arith) in
    ap (λ (x : ℕ). i / 2 ^ n % 2 * 2 ^ x + number_of (ibits n i)) (bits_length n i)
    ∙ ap (λ (x : ℕ). i / 2 ^ n % 2 * 2 ^ n + x) (bits_number n i) ∙ sym (mod-pow-add i 1 n) ∙ one_more

regrouped : (d a b x y : ℕ) → d * (a * b) + (x * b + y) ≡ (d * a + x) * b + y
regrouped d a b x y = omega arith

number_append : (xs ys : List ℕ) → number_of (xs ++ ys) ≡ number_of xs * 2 ^ length ys + number_of ys
number_append [] ys = omega arith
number_append (d ∷ xs) ys =
    ap (λ (x : ℕ). d * 2 ^ x + number_of (xs ++ ys)) (length-append xs ys)
    ∙ ap (λ (x : ℕ). d * x + number_of (xs ++ ys)) (pow-add 2 (length xs) (length ys))
    ∙ ap (λ (x : ℕ). d * (2 ^ length xs * 2 ^ length ys) + x) (number_append xs ys)
    ∙ regrouped d (2 ^ length xs) (2 ^ length ys) (number_of xs) (number_of ys)

zeros_number : (k : ℕ) → number_of (replicate k 0) ≡ 0
zeros_number zero = refl
zeros_number (suc k) = (let h = zeros_number k in omega (arith, h))

drop_bits : (k n r i : ℕ) → n ≡ k + r → drop k (ibits n i) ≡ ibits r i
unfolding ibits
drop_bits zero n r i e = ap (λ (x : ℕ). ibits x i) (omega (arith, e))
drop_bits (suc k) zero r i e = absurd (omega (arith, e))
drop_bits (suc k) (suc n) r i e = drop_bits k n r i (omega (arith, e))

take_bits : (r n k i : ℕ) → n ≡ r + k → take r (ibits n i) ≡ ibits r (i / 2 ^ k)
unfolding ibits
take_bits zero n k i e = refl
take_bits (suc r) zero k i e = absurd (omega (arith, e))
take_bits (suc r) (suc n) k i e =
    let same : n ≡ k + r = omega (arith, e) in
    ap (λ (x : ℕ). i / 2 ^ x % 2 ∷ take r (ibits n i)) same ∙ ap (λ (x : ℕ). x % 2 ∷ take r (ibits n i)) (sym (shr-shr i k r))
    ∙ ap (λ (l : List ℕ). i / 2 ^ k / 2 ^ r % 2 ∷ l) (take_bits r n k i (omega (arith, e)))

pow_positive : (k : ℕ) → 0 < 2 ^ k
pow_positive zero = omega arith
pow_positive (suc k) =
    let h = pow_positive k in
    let next : suc k ≡ k + 1 = omega arith in
    let e : 2 ^ suc k ≡ 2 ^ k * 2 = ap (λ (x : ℕ). 2 ^ x) next ∙ pow-add 2 k 1 in
    omega (arith, h, e)

-- a number moved up by k bits, of which r + k are kept
moved_up : (i r k : ℕ) → (i * 2 ^ k) % 2 ^ (r + k) ≡ i % 2 ^ r * 2 ^ k
moved_up i r k =
    let p = pow_positive k in
    let plain : i * 2 ^ k + 0 ≡ i * 2 ^ k = omega arith in
    let back : i * 2 ^ k / 2 ^ k ≡ i = ap (λ (x : ℕ). x / 2 ^ k) (sym plain) ∙ div-mul-add i (2 ^ k) 0 p in
    let none : i * 2 ^ k % 2 ^ k ≡ 0 = ap (λ (x : ℕ). x % 2 ^ k) (sym plain) ∙ mod-mul-add i (2 ^ k) 0 p in
    mod-pow-add (i * 2 ^ k) r k
    ∙ ap (λ (x : ℕ). x % 2 ^ r * 2 ^ k + i * 2 ^ k % 2 ^ k) back ∙ ap (λ (x : ℕ). i % 2 ^ r * 2 ^ k + x) none ∙ omega arith

small : (x m : ℕ) → x < m → x % m ≡ x
small x m lt = (let e = mod-mul-add 0 m x lt in let same : 0 * m + x ≡ x = omega arith in ap (λ (y : ℕ). y % m) (sym same) ∙ e)

-- the upper bits of a number, where all of it has r + k
upper : (i r k : ℕ) → i < 2 ^ (r + k) → number_of (ibits r (i / 2 ^ k)) ≡ i / 2 ^ k
upper i r k lt = bits_number r (i / 2 ^ k) ∙ small (i / 2 ^ k) (2 ^ r) (shr_below i r k lt)

-- two parts of the bits, one behind the other
joined : (r k i j : ℕ) → number_of (ibits r i ++ ibits k j) ≡ i % 2 ^ r * 2 ^ k + number_of (ibits k j)
joined r k i j =
    number_append (ibits r i) (ibits k j)
    ∙ ap (λ (x : ℕ). x * 2 ^ length (ibits k j) + number_of (ibits k j)) (bits_number r i)
    ∙ ap (λ (x : ℕ). i % 2 ^ r * 2 ^ x + number_of (ibits k j)) (bits_length k j)

record Parts (n k : ℕ) : Type 0 where
  whole : n ≡ k + (n - k)
  other : n ≡ (n - k) + k

parts : (n j : ℕ) → 0 < n → Parts n (j % n)
parts n j lt = (let b = mod_below j n lt in record { whole = omega (arith, b); other = omega (arith, b) })

pub shl_is : (n i j : ℕ) → 0 < n → ishl n i j ≡ (i * 2 ^ (j % n)) % 2 ^ n
unfolding ishl
shl_is n i j lt =
    let k = j % n in
    let r = n - j % n in
    let p = parts n j lt in
    ap (λ (l : List ℕ). number_of (l ++ replicate k 0)) (drop_bits k n r i p.whole)
    ∙ number_append (ibits r i) (replicate k 0)
    ∙ ap (λ (x : ℕ). number_of (ibits r i) * 2 ^ x + number_of (replicate k 0)) (length-replicate k 0)
    ∙ ap (λ (x : ℕ). number_of (ibits r i) * 2 ^ k + x) (zeros_number k)
    ∙ ap (λ (x : ℕ). x * 2 ^ k + 0) (bits_number r i)
    ∙ (let plain : i % 2 ^ r * 2 ^ k + 0 ≡ i % 2 ^ r * 2 ^ k = omega arith in plain)
    ∙ sym (moved_up i r k) ∙ ap (λ (x : ℕ). (i * 2 ^ k) % 2 ^ x) (sym p.other)

pub shr_u_is : (n i j : ℕ) → 0 < n → i < 2 ^ n → ishr_u n i j ≡ i / 2 ^ (j % n)
unfolding ishr_u
shr_u_is n i j lt fits =
    let k = j % n in
    let r = n - j % n in
    let p = parts n j lt in
    let fits' : i < 2 ^ (r + k) = subst (λ (x : ℕ). i < 2 ^ x) p.other fits in
    number_append (replicate k 0) (take r (ibits n i))
    ∙ ap (λ (x : ℕ). x * 2 ^ length (take r (ibits n i)) + number_of (take r (ibits n i))) (zeros_number k)
    ∙ (let plain : 0 * 2 ^ length (take r (ibits n i)) + number_of (take r (ibits n i)) ≡ number_of (take r (ibits n i)) = omega arith in plain)
    ∙ ap number_of (take_bits r n k i p.other) ∙ upper i r k fits'

pub rotl_is : (n i j : ℕ) → 0 < n → i < 2 ^ n → irotl n i j ≡ (i * 2 ^ (j % n)) % 2 ^ n + i / 2 ^ (n - j % n)
unfolding irotl
rotl_is n i j lt fits =
    let k = j % n in
    let r = n - j % n in
    let p = parts n j lt in
    let fits' : i < 2 ^ (k + r) = subst (λ (x : ℕ). i < 2 ^ x) p.whole fits in
    ap (λ (l : List ℕ). number_of (l ++ take k (ibits n i))) (drop_bits k n r i p.whole)
    ∙ ap (λ (l : List ℕ). number_of (ibits r i ++ l)) (take_bits k n r i p.whole)
    ∙ joined r k i (i / 2 ^ r) ∙ ap (λ (x : ℕ). i % 2 ^ r * 2 ^ k + x) (upper i k r fits')
    ∙ ap (λ (x : ℕ). x + i / 2 ^ r) (sym (moved_up i r k) ∙ ap (λ (x : ℕ). (i * 2 ^ k) % 2 ^ x) (sym p.other))

pub rotr_is : (n i j : ℕ) → 0 < n → i < 2 ^ n → irotr n i j ≡ (i * 2 ^ (n - j % n)) % 2 ^ n + i / 2 ^ (j % n)
unfolding irotr
rotr_is n i j lt fits =
    let k = j % n in
    let r = n - j % n in
    let p = parts n j lt in
    let fits' : i < 2 ^ (r + k) = subst (λ (x : ℕ). i < 2 ^ x) p.other fits in
    ap (λ (l : List ℕ). number_of (l ++ take r (ibits n i))) (drop_bits r n k i p.other)
    ∙ ap (λ (l : List ℕ). number_of (ibits k i ++ l)) (take_bits r n k i p.other)
    ∙ joined k r i (i / 2 ^ k) ∙ ap (λ (x : ℕ). i % 2 ^ k * 2 ^ r + x) (upper i r k fits')
    ∙ ap (λ (x : ℕ). x + i / 2 ^ k) (sym (moved_up i k r) ∙ ap (λ (x : ℕ). (i * 2 ^ r) % 2 ^ x) (sym p.whole))
