-- Decimal numbers: what is written is read back, and what is read is so written.
use Rattle.std.proofs.Common.{◌≡◌, ◌≢◌, ◌≤◌, ◌<◌, ℕ, ◌+◌, ◌-◌, ◌*◌, ◌/◌, ◌%◌, ◌^◌, ◌==◌, ◌&&◌, Bool, true, false, List, [], ◌∷◌, ◌++◌, length, get_or, Some, None, refl, sym, ap, ◌∙◌, arith, append_assoc, zero-add, subst}
use Rattle.std.specs.Prelude.{if◌then◌else◌, nat_le, decimal, option_and_then}
use Rattle.std.proofs.lemmas.Bool.Decides.{nat_tests}
use Rattle.std.proofs.lemmas.Fmt.{decimal_by_steps, decimal_step, decimal_digit}
use Rattle.plain_text.specs.Decimal.{Between, is_digit, digits_value, number_of, within, number_in}
use Rattle.plain_text.proofs.Options.{bind_some}

-- ---- written, then read

digit_is : (d : ℕ) → d < 10 → is_digit (48 + d) ≡ true
digit_is d small = grind (arith, nat_tests)

digits_value-push : (n m : ℕ) (ds : List ℕ) (d : ℕ) → d < 10 → digits_value n ds ≡ Some m → digits_value n (ds ++ (48 + d) ∷ []) ≡ Some (10 * m + d)
digits_value-push n m [] d small read = rw (digit_is d small) (let e : n ≡ m = cc in ap Some (omega arith))
digits_value-push n m (b ∷ bs) d small read = by (is_digit b) (digits_value-push (10 * n + (b - 48)) m bs d small) read
  where
    by : (digit : Bool) → (digits_value (10 * n + (b - 48)) bs ≡ Some m → digits_value (10 * n + (b - 48)) (bs ++ (48 + d) ∷ []) ≡ Some (10 * m + d))
        → (if digit then digits_value (10 * n + (b - 48)) bs else None) ≡ Some m
        → (if digit then digits_value (10 * n + (b - 48)) (bs ++ (48 + d) ∷ []) else None) ≡ Some (10 * m + d)
    by true rest read' = rest read'
    by false rest read' = cc

-- digits that spell n, the first one no 0 unless it is the only one
record Spelled (n : ℕ) (ds : List ℕ) : Type 0 where
  value : digits_value 0 ds ≡ Some n
  some : 0 < length ds
  first : 2 ≤ length ds → get_or ds 0 0 ≢ 48
  positive : 0 < n → get_or ds 0 0 ≢ 48

one_digit : (n : ℕ) → n < 10 → Spelled n ((48 + n) ∷ [])
one_digit n small = record {
  value = rw (digit_is n small) (ap Some (omega arith));
  some = omega arith;
  first = λ several. absurd (omega arith);
  positive = λ some e. omega arith;
}

one_more : (n : ℕ) (ds : List ℕ) → 10 ≤ n → Spelled (n / 10) ds → Spelled n (ds ++ (48 + n % 10) ∷ [])
one_more n [] large so_far = absurd (omega (arith, so_far.some))
one_more n (b ∷ bs) large so_far = record {
  value = digits_value-push 0 (n / 10) (b ∷ bs) (n % 10) (omega arith) so_far.value ∙ ap Some (omega arith);
  some = omega arith;
  first = λ several. so_far.positive (omega arith);
  positive = λ some. so_far.positive (omega arith);
}

spelled_decimal : (n : ℕ) → n < 2 ^ 64 → Spelled n (decimal n)
spelled_decimal = decimal_by_steps Spelled one_digit one_more

number_of-spelled : (n : ℕ) (ds : List ℕ) → Spelled n ds → number_of ds ≡ Some n
unfolding number_of
number_of-spelled n [] s = absurd (omega (arith, s.some))
number_of-spelled n (b ∷ []) s = s.value
number_of-spelled n (b ∷ c ∷ bs) s = let e : (b == 48) ≡ false = let ne : b ≢ 48 = s.first (omega arith) in grind (arith, nat_tests) in rw e s.value

within_range : (low high n : ℕ) → Between low high n → within low high n ≡ Some n
within_range low high n range = let l = range.0 in let h = range.1 in grind (arith, nat_tests)

pub number_in-decimal : (low high n : ℕ) → high < 2 ^ 64 → Between low high n → number_in low high (decimal n) ≡ Some n
unfolding number_in
number_in-decimal low high n small range =
    ap (option_and_then (within low high)) (number_of-spelled n (decimal n) (spelled_decimal n (omega (arith, range.1)))) ∙ within_range low high n range

-- ---- read, then written

grows : (n m : ℕ) (ds : List ℕ) → digits_value n ds ≡ Some m → n ≤ m
grows n m [] read = let e : n ≡ m = cc in omega arith
grows n m (b ∷ bs) read = by (is_digit b) (grows (10 * n + (b - 48)) m bs) read
  where
    by : (digit : Bool) → (digits_value (10 * n + (b - 48)) bs ≡ Some m → 10 * n + (b - 48) ≤ m) → (if digit then digits_value (10 * n + (b - 48)) bs else None) ≡ Some m → n ≤ m
    by true rest read' = omega (arith, rest read')
    by false rest read' = cc

next_digit : (n b : ℕ) → 0 < n → 10 * n + (b - 48) < 2 ^ 64 → is_digit b ≡ true → decimal (10 * n + (b - 48)) ≡ decimal n ++ b ∷ []
next_digit n b some small digit =
    let low : 48 ≤ b = grind (arith, nat_tests) in
    let high : b ≤ 57 = grind (arith, nat_tests) in
    let m : ℕ = 10 * n + (b - 48) in
    let up : (10 * n + (b - 48)) / 10 ≡ n = omega arith in
    let down : 48 + (10 * n + (b - 48)) % 10 ≡ b = omega arith in
    decimal_step (10 * n + (b - 48)) (omega arith) small ∙ ap (λ k. decimal k ++ (48 + (10 * n + (b - 48)) % 10) ∷ []) up ∙ ap (λ k. decimal n ++ k ∷ []) down

decimal-onto : (n m : ℕ) (ds : List ℕ) → 0 < n → m < 2 ^ 64 → digits_value n ds ≡ Some m → decimal m ≡ decimal n ++ ds
decimal-onto n m [] some small read = let e : n ≡ m = cc in rw (← e) (sym (append_nil' (decimal n)))
  where
    append_nil' : (xs : List ℕ) → xs ++ [] ≡ xs
    append_nil' [] = refl
    append_nil' (x ∷ xs) = ap (λ ys. x ∷ ys) (append_nil' xs)
decimal-onto n m (b ∷ bs) some small read = by (is_digit b) refl (λ positive. decimal-onto (10 * n + (b - 48)) m bs positive small) read
  where
    by : (digit : Bool) → is_digit b ≡ digit → (0 < 10 * n + (b - 48) → digits_value (10 * n + (b - 48)) bs ≡ Some m → decimal m ≡ decimal (10 * n + (b - 48)) ++ bs)
        → (if digit then digits_value (10 * n + (b - 48)) bs else None) ≡ Some m → decimal m ≡ decimal n ++ b ∷ bs
    by true e rest read' =
        let below : 10 * n + (b - 48) < 2 ^ 64 = omega (arith, grows (10 * n + (b - 48)) m bs read') in
        rest (omega arith) read' ∙ ap (λ xs. xs ++ bs) (next_digit n b some below e) ∙ append_assoc (decimal n) (b ∷ []) bs
    by false e rest read' = cc

first_digit : (m b : ℕ) (bs : List ℕ) → m < 2 ^ 64 → b ≢ 48 → digits_value 0 (b ∷ bs) ≡ Some m → decimal m ≡ b ∷ bs
first_digit m b bs small other read = by (is_digit b) refl read
  where
    by : (digit : Bool) → is_digit b ≡ digit → (if digit then digits_value (10 * 0 + (b - 48)) bs else None) ≡ Some m → decimal m ≡ b ∷ bs
    by true e read' =
        let low : 48 ≤ b = grind (arith, nat_tests) in
        let high : b ≤ 57 = grind (arith, nat_tests) in
        let back : 48 + (b - 48) ≡ b = omega arith in
        decimal-onto (b - 48) m bs (omega arith) small (rw zero-add at read') ∙ ap (λ xs. xs ++ bs) (decimal_digit (b - 48) (omega arith)) ∙ ap (λ x. x ∷ bs) back
    by false e read' = cc

only_digit : (m b : ℕ) → digits_value 0 (b ∷ []) ≡ Some m → decimal m ≡ b ∷ []
only_digit m b read = by (is_digit b) refl read
  where
    by : (digit : Bool) → is_digit b ≡ digit → (if digit then Some (10 * 0 + (b - 48)) else None) ≡ Some m → decimal m ≡ b ∷ []
    by true e read' =
        let low : 48 ≤ b = grind (arith, nat_tests) in
        let high : b ≤ 57 = grind (arith, nat_tests) in
        let is : 10 * 0 + (b - 48) ≡ m = cc in
        decimal_digit m (omega arith) ∙ ap (λ x. x ∷ []) (omega arith)
    by false e read' = cc

decimal-number_of : (m : ℕ) (text : List ℕ) → m < 2 ^ 64 → number_of text ≡ Some m → decimal m ≡ text
unfolding number_of
decimal-number_of m [] small read = cc
decimal-number_of m (b ∷ []) small read = only_digit m b read
decimal-number_of m (b ∷ c ∷ bs) small read = by (b == 48) refl read
  where
    by : (zero' : Bool) → (b == 48) ≡ zero' → (if zero' then None else digits_value 0 (b ∷ c ∷ bs)) ≡ Some m → decimal m ≡ b ∷ c ∷ bs
    by true e read' = cc
    by false e read' = let ne : b ≢ 48 = grind (arith, nat_tests) in first_digit m b (c ∷ bs) small ne read'

-- a number in a range, and its text
pub record IsNumber (low high n : ℕ) (text : List ℕ) : Type 0 where
  pub range : Between low high n
  pub written : decimal n ≡ text

within-some : (low high n m : ℕ) → within low high n ≡ Some m → (n ≡ m) × Between low high n
within-some low high n m read = by (nat_le low n) (nat_le n high) refl refl read
  where
    by : (a b : Bool) → nat_le low n ≡ a → nat_le n high ≡ b → (if a && b then Some n else None) ≡ Some m → (n ≡ m) × Between low high n
    by true true above below read' = (cc, (grind (arith, nat_tests), grind (arith, nat_tests)))
    by true false above below read' = cc
    by false b above below read' = cc

pub number_in-some : (low high n : ℕ) (text : List ℕ) → high < 2 ^ 64 → number_in low high text ≡ Some n → IsNumber low high n text
unfolding number_in
number_in-some low high n text small read =
    let found = bind_some (number_of text) (within low high) n read in
    let inside = within-some low high found.0 n found.2 in
    let same : found.0 ≡ n = inside.0 in
    let P : ℕ → Type 0 = λ m. Between low high m in
    record { range = subst P same inside.1; written = decimal-number_of n text (omega (arith, inside.1.1)) (found.1 ∙ ap Some same) }
