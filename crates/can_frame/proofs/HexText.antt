-- Bytes in hexadecimal, as the crate hex writes and reads them, in lower case.
use Rattle.std.proofs.Common.{◌≡◌, ◌<◌, ◌==◌, ℕ, zero, suc, ◌+◌, ◌*◌, ◌/◌, ◌%◌, Bool, true, false, ◌&&◌, ◌||◌, cond, List, [], ◌∷◌, length, slice_index, Option, Some, None, Result, Ok, Err, refl, sym, ap, ◌∙◌, arith, inl, inr}
use Rattle.std.specs.Prelude.{All, option_and_then}
use Rattle.std.specs.List.{list_any}
use Rattle.std.proofs.lemmas.Bool.{and_parts, cases_lt, eqb-true}
use Rattle.std.proofs.lemmas.Bool.Decides.{nat_tests}
use Rattle.std.proofs.lemmas.List.Elements.{All-from_get_or, All-head, All-tail}
use Rattle.hex.specs.Hex.{decode_of, decode_pairs, digit_or_error, ◌>>=◌, encode_lower, encode_with, hex_digit_value, lower_digits}
use Rattle.hex.specs.declared.error.FromHexError.{FromHexError}
use Rattle.hex.specs.declared.error.FromHexError.TheVariants.{OddLength}
use Rattle.frame_specs.specs.FrameText.{hex_bytes, hex_digit}
use Rattle.frame_specs.specs.FrameReading.{digit_of, bytes_of}
use Rattle.can_frame.specs.UpperCase.{is_upper}

-- ---- writing

abbrev all_same : ℕ → Bool
all_same zero = true
all_same (suc n) = (slice_index lower_digits n == hex_digit n) && all_same n

all_same-at : (n d : ℕ) → all_same n ≡ true → d < n → slice_index lower_digits d ≡ hex_digit d
all_same-at zero d h lt = absurd (omega arith)
all_same-at (suc n) d h lt =
    let parts = and_parts (slice_index lower_digits n == hex_digit n) (all_same n) h in
    elim (cases_lt d n) [
      | inl below ↦ all_same-at n d parts.1 below
      | inr top ↦
          let e : d ≡ n = omega arith in
          rw e (eqb-true (slice_index lower_digits n) (hex_digit n) parts.0)
    ]

lower_digit : (d : ℕ) → d < 16 → slice_index lower_digits d ≡ hex_digit d
lower_digit d lt = all_same-at 16 d refl lt

pub encode_lower-hex_bytes : (bytes : List ℕ) → All (λ b. b < 256) bytes → encode_lower bytes ≡ hex_bytes bytes
unfolding encode_with
encode_lower-hex_bytes [] small = refl
encode_lower-hex_bytes (b ∷ bs) small =
    let byte : b < 256 = All-head (λ x. x < 256) b bs small in
    let high : b / 16 ≡ b / 16 % 16 = omega arith in
    let low : b % 16 ≡ b / 1 % 16 = omega arith in
    ap (λ c. c ∷ slice_index lower_digits (b % 16) ∷ encode_lower bs) (lower_digit (b / 16) (omega arith) ∙ ap hex_digit high)
    ∙ ap (λ c. hex_digit (b / 16 % 16) ∷ c ∷ encode_lower bs) (lower_digit (b % 16) (omega arith) ∙ ap hex_digit low)
    ∙ ap (λ cs. hex_digit (b / 16 % 16) ∷ hex_digit (b / 1 % 16) ∷ cs) (encode_lower-hex_bytes bs (All-tail (λ x. x < 256) b bs small))

-- ---- reading

value_read : (c : ℕ) → is_upper c ≡ false → hex_digit_value c ≡ digit_of c
value_read c lower = grind (arith, nat_tests)

no_upper : (c : ℕ) → is_upper c ≡ true → digit_of c ≡ None
no_upper c upper = grind (arith, nat_tests)

abbrev pub ok_of : {A : Type 0} → Result A FromHexError → Option A
ok_of (Ok x) = Some x
ok_of (Err e) = None

-- the bytes that two digits and the rest spell
abbrev spelled : Option ℕ → Option ℕ → Option (List ℕ) → Option (List ℕ)
spelled high low rest =
    option_and_then (λ h. option_and_then (λ l. option_and_then (λ bs. Some ((16 * h + l) ∷ bs)) rest) low) high

pair_spelled : (high low : Option ℕ) (rest : Result (List ℕ) FromHexError) (c d i : ℕ)
    → ok_of ((digit_or_error c i high >>= λ h. digit_or_error d (i + 1) low >>= λ l. Ok (h * 16 + l)) >>= λ b. rest >>= λ bs. Ok (b ∷ bs))
    ≡ spelled high low (ok_of rest)
pair_spelled None low rest c d i = refl
pair_spelled (Some h) None rest c d i = refl
pair_spelled (Some h) (Some l) (Ok bs) c d i =
    let same : h * 16 + l ≡ 16 * h + l = omega arith in
    ap (λ b. Some (b ∷ bs)) same
pair_spelled (Some h) (Some l) (Err e) c d i = refl

neither : (a b : Bool) → (a || b) ≡ false → (a ≡ false) × (b ≡ false)
neither false false h = (refl, refl)
neither false true h = cc h
neither true b h = cc h

pairs_read : (i : ℕ) (text : List ℕ) → list_any is_upper text ≡ false → ok_of (decode_pairs i text) ≡ bytes_of text
unfolding decode_pairs
pairs_read i [] lower = refl
pairs_read i (c ∷ []) lower = refl
pairs_read i (c ∷ d ∷ cs) lower =
    let first = neither (is_upper c) (list_any is_upper (d ∷ cs)) lower in
    let second = neither (is_upper d) (list_any is_upper cs) first.1 in
    pair_spelled (hex_digit_value c) (hex_digit_value d) (decode_pairs (i + 2) cs) c d i
    ∙ ap (λ o. spelled o (hex_digit_value d) (ok_of (decode_pairs (i + 2) cs))) (value_read c first.0)
    ∙ ap (λ o. spelled (digit_of c) o (ok_of (decode_pairs (i + 2) cs))) (value_read d second.0)
    ∙ ap (spelled (digit_of c) (digit_of d)) (pairs_read (i + 2) cs second.1)

spelled_none : (high low : Option ℕ) → spelled high low None ≡ None
spelled_none None low = refl
spelled_none (Some h) None = refl
spelled_none (Some h) (Some l) = refl

odd_read : (text : List ℕ) → length text % 2 ≡ 1 → bytes_of text ≡ None
odd_read [] odd = absurd (omega arith)
odd_read (c ∷ []) odd = refl
odd_read (c ∷ d ∷ cs) odd =
    ap (spelled (digit_of c) (digit_of d)) (odd_read cs (omega arith)) ∙ spelled_none (digit_of c) (digit_of d)

-- what the crate reads where no digit is in upper case
pub decode_of-bytes_of : (text : List ℕ) → list_any is_upper text ≡ false → ok_of (decode_of text) ≡ bytes_of text
decode_of-bytes_of text lower =
    let P : Bool → Type 0 = λ v. (length text % 2 == 1) ≡ v → ok_of (cond v (Err OddLength) (decode_pairs 0 text)) ≡ bytes_of text in
    let cases : P (length text % 2 == 1) = elim (length text % 2 == 1) as P [
      | true ↦ λ odd. sym (odd_read text (eqb-true (length text % 2) 1 odd))
      | false ↦ λ even. pairs_read 0 text lower
    ] in
    cases refl

spelled_low : (high : Option ℕ) (rest : Option (List ℕ)) → spelled high None rest ≡ None
spelled_low None rest = refl
spelled_low (Some h) rest = refl

upper_step : (c d : ℕ) (cs : List ℕ) (first second : Bool) → (first ≡ true → digit_of c ≡ None) → (second ≡ true → digit_of d ≡ None)
    → (list_any is_upper cs ≡ true → bytes_of cs ≡ None)
    → (first || second || list_any is_upper cs) ≡ true
    → spelled (digit_of c) (digit_of d) (bytes_of cs) ≡ None
upper_step c d cs true second at_c at_d later upper = ap (λ o. spelled o (digit_of d) (bytes_of cs)) (at_c refl)
upper_step c d cs false true at_c at_d later upper =
    ap (λ o. spelled (digit_of c) o (bytes_of cs)) (at_d refl) ∙ spelled_low (digit_of c) (bytes_of cs)
upper_step c d cs false false at_c at_d later upper =
    ap (spelled (digit_of c) (digit_of d)) (later upper) ∙ spelled_none (digit_of c) (digit_of d)

pub upper_read : (text : List ℕ) → list_any is_upper text ≡ true → bytes_of text ≡ None
upper_read [] upper = cc upper
upper_read (c ∷ []) upper = refl
upper_read (c ∷ d ∷ cs) upper =
    upper_step c d cs (is_upper c) (is_upper d) (no_upper c) (no_upper d) (upper_read cs) (or_assoc (is_upper c) (is_upper d) (list_any is_upper cs) ∙ upper)
  where
    or_assoc : (a b r : Bool) → ((a || b) || r) ≡ (a || (b || r))
    or_assoc true b r = refl
    or_assoc false b r = refl

pub all_bytes : (bytes : List ℕ) → ((i : ℕ) → slice_index bytes i < 256) → All (λ b. b < 256) bytes
all_bytes bytes small = All-from_get_or (λ b. b < 256) bytes 0 (λ i inside. small i)
