-- Numbers in rows of bytes: two halves make the whole.
use Rattle.std.proofs.Common.{◌≡◌, ℕ, zero, suc, ◌+◌, ◌-◌, ◌*◌, ◌<◌, ◌≤◌, List, [], ◌∷◌, ◌++◌, length, refl, sym, ap, ◌∙◌, arith}
use Rattle.std.specs.Prelude.{◌/◌, ◌%◌, ◌^◌, take, drop, slice_index, slice_range, slice_set}
use Rattle.std.proofs.Math.Seq.{take-add, paste}
use Rattle.std.proofs.Math.Nat.{div-div-eq-div-mul}
use Rattle.std.proofs.lemmas.Nat.{pow-add}
use Rattle.std.proofs.lemmas.List.Edits.{paste_all, paste-paste}
use Rattle.std.proofs.lemmas.List.{drop-drop, drop_more, length-append, length-drop, length-take-le, set_split}
use Rattle.code_specs.specs.Stores.{number_of_bytes, bytes_of, replaced_at}
use Rattle.wasm_memory.specs.Words.{number_at}

-- a part by its length
part : (xs : List ℕ) (a n : ℕ) → slice_range xs a (a + n) ≡ take n (drop a xs)
part xs a n = (let e : a + n - a ≡ n = omega arith in ap (λ (k : ℕ). take k (drop a xs)) e)

regrouped : (b x p y : ℕ) → b + 256 * (x + p * y) ≡ b + 256 * x + p * 256 * y
regrouped b x p y = omega arith

number-append : (xs ys : List ℕ) → number_of_bytes (xs ++ ys) ≡ number_of_bytes xs + 256 ^ length xs * number_of_bytes ys
number-append [] ys = omega arith
number-append (b ∷ xs) ys =
    let next : suc (length xs) ≡ length xs + 1 = omega arith in
    let p : 256 ^ suc (length xs) ≡ 256 ^ length xs * 256 = ap (λ (k : ℕ). 256 ^ k) next ∙ pow-add 256 (length xs) 1 in
    ap (λ (x : ℕ). b + 256 * x) (number-append xs ys)
    ∙ regrouped b (number_of_bytes xs) (256 ^ length xs) (number_of_bytes ys)
    ∙ ap (λ (x : ℕ). b + 256 * number_of_bytes xs + x * number_of_bytes ys) (sym p)

part_length : (xs : List ℕ) (a n : ℕ) → a + n ≤ length xs → length (take n (drop a xs)) ≡ n
part_length xs a n le = (let d = length-drop a xs in length-take-le n (drop a xs) (omega (arith, le, d)))

pub number_joined : (xs : List ℕ) (a m n : ℕ) → a + (m + n) ≤ length xs → number_at xs a (m + n) ≡ number_at xs a m + 256 ^ m * number_at xs (a + m) n
number_joined xs a m n le =
    ap number_of_bytes (part xs a (m + n) ∙ take-add m n (drop a xs))
    ∙ number-append (take m (drop a xs)) (take n (drop m (drop a xs)))
    ∙ ap (λ (k : ℕ). number_of_bytes (take m (drop a xs)) + 256 ^ k * number_of_bytes (take n (drop m (drop a xs)))) (part_length xs a m (omega (arith, le)))
    ∙ ap (λ (l : List ℕ). number_of_bytes (take m (drop a xs)) + 256 ^ m * number_of_bytes (take n l)) (drop-drop m a xs)
    ∙ ap (λ (l : List ℕ). number_of_bytes (take m (drop a xs)) + 256 ^ m * number_of_bytes l) (sym (part xs (a + m) n))
    ∙ ap (λ (l : List ℕ). number_of_bytes l + 256 ^ m * number_at xs (a + m) n) (sym (part xs a m))

pub number_byte : (xs : List ℕ) (a : ℕ) → a < length xs → number_at xs a 1 ≡ slice_index xs a
number_byte xs a lt =
    ap number_of_bytes (part xs a 1 ∙ ap (take 1) (drop_more xs a 0 lt)) ∙ omega arith

-- the low bytes of a number, and those above them
pub bytes_joined : (m n v : ℕ) → bytes_of (m + n) v ≡ bytes_of m v ++ bytes_of n (v / 256 ^ m)
unfolding bytes_of
bytes_joined zero n v = (let one : v / 1 ≡ v = omega arith in let none : 0 + n ≡ n = omega arith in ap (λ (k : ℕ). bytes_of k v) none ∙ ap (bytes_of n) (sym one))
bytes_joined (suc m) n v =
    let next : suc m + n ≡ suc (m + n) = omega arith in
    let up : 1 + m ≡ suc m = omega arith in
    let p : 256 * 256 ^ m ≡ 256 ^ suc m = sym (pow-add 256 1 m) ∙ ap (λ (k : ℕ). 256 ^ k) up in
    ap (λ (k : ℕ). bytes_of k v) next
    ∙ ap (λ (l : List ℕ). v % 256 ∷ l) (bytes_joined m n (v / 256))
    ∙ ap (λ (x : ℕ). v % 256 ∷ bytes_of m (v / 256) ++ bytes_of n x) (div-div-eq-div-mul v 256 (256 ^ m) ∙ ap (λ (x : ℕ). v / x) p)

pub bytes_of_length : (n v : ℕ) → length (bytes_of n v) ≡ n
unfolding bytes_of
bytes_of_length zero v = refl
bytes_of_length (suc n) v = ap suc (bytes_of_length n (v / 256))

pub byte_put : (xs : List ℕ) (a v : ℕ) → a < length xs → slice_set xs a (v % 256) ≡ replaced_at xs a (bytes_of 1 v)
unfolding bytes_of
byte_put xs a v lt =
    let next : suc a ≡ a + 1 = omega arith in
    set_split xs a (v % 256) lt ∙ ap (λ (k : ℕ). take a xs ++ v % 256 ∷ drop k xs) next

-- what was put behind other bytes, and the rest
pub put_joined : (xs : List ℕ) (a : ℕ) (one two : List ℕ) → a + (length one + length two) ≤ length xs → replaced_at (replaced_at xs a one) (a + length one) two ≡ replaced_at xs a (one ++ two)
put_joined xs a one two le =
    let both : length one + length two ≡ length (one ++ two) = sym (length-append one two) in
    ap (λ (l : List ℕ). replaced_at l (a + length one) two) (sym (paste_all xs a one (length one) refl))
    ∙ sym (paste_all (paste xs a one (length one)) (a + length one) two (length two) refl)
    ∙ paste-paste xs a one two (length one) (length two) refl refl (omega (arith, le))
    ∙ paste_all xs a (one ++ two) (length one + length two) both
    ∙ ap (λ (k : ℕ). take a xs ++ ((one ++ two) ++ drop (a + k) xs)) both

-- a number by its two halves
pub halves : (xs : List ℕ) (a m n x y : ℕ) → a + (m + n) ≤ length xs → x ≡ number_at xs a m → y ≡ number_at xs (a + m) n → x + 256 ^ m * y ≡ number_at xs a (m + n)
halves xs a m n x y le low high =
    ap (λ (k : ℕ). k + 256 ^ m * y) low ∙ ap (λ (k : ℕ). number_at xs a m + 256 ^ m * k) high ∙ sym (number_joined xs a m n le)

-- the bytes of a number, put in two halves
pub put_halves : (xs ys zs : List ℕ) (a m n v : ℕ) → a + (m + n) ≤ length xs → ys ≡ replaced_at xs a (bytes_of m v) → zs ≡ replaced_at ys (a + m) (bytes_of n (v / 256 ^ m)) → zs ≡ replaced_at xs a (bytes_of (m + n) v)
put_halves xs ys zs a m n v le low high =
    let one = bytes_of m v in
    let two = bytes_of n (v / 256 ^ m) in
    let lm = bytes_of_length m v in
    let ln = bytes_of_length n (v / 256 ^ m) in
    high ∙ ap (λ (l : List ℕ). replaced_at l (a + m) two) low
    ∙ ap (λ (k : ℕ). replaced_at (replaced_at xs a one) (a + k) two) (sym lm)
    ∙ put_joined xs a one two (omega (arith, le, lm, ln)) ∙ ap (replaced_at xs a) (sym (bytes_joined m n v))
