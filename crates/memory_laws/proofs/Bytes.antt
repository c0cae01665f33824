-- Numbers and their bytes.
use Rattle.std.proofs.Common.{◌≡◌, ℕ, zero, suc, ◌+◌, ◌*◌, ◌<◌, List, [], ◌∷◌, length, refl, sym, ap, ◌∙◌, arith}
use Rattle.std.specs.Prelude.{◌/◌, ◌%◌, ◌^◌, All}
use Rattle.std.proofs.lemmas.Nat.{mod_below, mod-pow-add, mod-mul-add, div-mul-add}
use Rattle.std.proofs.lemmas.List.Elements.{All-nil, All-cons, All-head, All-tail}
use Rattle.code_specs.specs.Stores.{number_of_bytes, bytes_of}

pub counted : (count n : ℕ) → length (bytes_of count n) ≡ count
unfolding bytes_of
counted zero n = refl
counted (suc count) n = ap suc (counted count (n / 256))

pub small : (count n : ℕ) → All (λ b. b < 256) (bytes_of count n)
unfolding bytes_of
small zero n = All-nil (λ b. b < 256)
small (suc count) n =
    All-cons (λ b. b < 256) (n % 256) (bytes_of count (n / 256)) (mod_below n 256 (omega arith)) (small count (n / 256))

pub number_is : (count n : ℕ) → number_of_bytes (bytes_of count n) ≡ n % 2 ^ (8 * count)
unfolding bytes_of
number_is zero n = (let b = mod_below n 1 (omega arith) in omega (arith, b))
number_is (suc count) n =
    let h = number_is count (n / 256) in
    let up : 8 * count + 8 ≡ 8 * suc count = omega arith in
    let e : n % 2 ^ (8 * count + 8) ≡ (n / 256 % 2 ^ (8 * count)) * 256 + n % 256 = mod-pow-add n (8 * count) 8 in
    let turned : n % 256 + 256 * number_of_bytes (bytes_of count (n / 256)) ≡ (n / 256 % 2 ^ (8 * count)) * 256 + n % 256 = omega (arith, h) in
    turned ∙ sym e ∙ ap (λ (k : ℕ). n % 2 ^ k) up

pub bytes_are : (bytes : List ℕ) → All (λ b. b < 256) bytes → bytes_of (length bytes) (number_of_bytes bytes) ≡ bytes
unfolding bytes_of
bytes_are [] h = refl
bytes_are (b ∷ bs) h =
    let lt : b < 256 = All-head (λ b. b < 256) b bs h in
    let n = number_of_bytes bs in
    let turned : b + 256 * n ≡ n * 256 + b = omega arith in
    ap (λ (k : ℕ). k % 256 ∷ bytes_of (length bs) (k / 256)) turned
    ∙ ap (λ (k : ℕ). k ∷ bytes_of (length bs) ((n * 256 + b) / 256)) (mod-mul-add n 256 b lt)
    ∙ ap (λ (k : ℕ). b ∷ bytes_of (length bs) k) (div-mul-add n 256 b lt)
    ∙ ap (λ (l : List ℕ). b ∷ l) (bytes_are bs (All-tail (λ b. b < 256) b bs h))
