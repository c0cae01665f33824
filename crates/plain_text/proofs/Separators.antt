-- Words and lines: what stands between separators, cut apart and put together.
use Rattle.std.proofs.Common.{◌≡◌, ◌≤◌, ◌<◌, ℕ, zero, suc, ◌+◌, ◌%◌, ◌/◌, ◌^◌, ◌==◌, ◌&&◌, Bool, true, false, List, [], ◌∷◌, ◌++◌, length, Some, refl, sym, ap, ◌∙◌, arith}
use Rattle.std.specs.Prelude.{if◌then◌else◌, nat_lt, codes, decimal, option_map}
use Rattle.std.proofs.lemmas.Bool.Decides.{nat_tests}
use Rattle.std.proofs.lemmas.Bool.{and_parts}
use Rattle.std.proofs.lemmas.Fmt.{decimal_by_steps}
use Rattle.frame_specs.specs.Frame.{Frame, Kind, Data, Remote, Fd}
use Rattle.frame_specs.specs.FrameText.{hex_digit, hex, hex_bytes, identifier_text, flag, data_text, frame_text}
use Rattle.frame_specs.specs.FrameReading.{cut}
use Rattle.log_specs.specs.Line.{joined}
use Rattle.plain_text.specs.Parts.{parts, with_front}

-- ---- parts

-- no byte is the separator
abbrev pub Without : ℕ → List ℕ → Type 0
Without s [] = Unit {0}
Without s (b ∷ bs) = ((b == s) ≡ false) × Without s bs

pub some_part : (s : ℕ) (text : List ℕ) → 1 ≤ length (parts s text)
some_part s [] = omega arith
some_part s (b ∷ bs) = elim (b == s) as (λ v. 1 ≤ length (if v then [] ∷ parts s bs else with_front b (parts s bs))) [
  | true ↦ omega arith
  | false ↦ front (parts s bs)
]
  where
    front : (ps : List (List ℕ)) → 1 ≤ length (with_front b ps)
    front [] = omega arith
    front (p ∷ ps) = omega arith

-- a word and its separator in front are one part more
pub parts_word : (s : ℕ) (word rest : List ℕ) → Without s word → parts s (word ++ s ∷ rest) ≡ word ∷ parts s rest
parts_word s [] rest none = let e : (s == s) ≡ true = grind (arith, nat_tests) in rw e refl
parts_word s (b ∷ bs) rest none = rw none.0 (ap (with_front b) (parts_word s bs rest none.1))

pub parts_last : (s : ℕ) (word : List ℕ) → Without s word → parts s word ≡ word ∷ []
parts_last s [] none = refl
parts_last s (b ∷ bs) none = rw none.0 (ap (with_front b) (parts_last s bs none.1))

-- each part is without the separator
abbrev pub AllWithout : ℕ → List (List ℕ) → Type 0
AllWithout s [] = Unit {0}
AllWithout s (p ∷ ps) = Without s p × AllWithout s ps

front_without : (s b : ℕ) (ps : List (List ℕ)) → (b == s) ≡ false → AllWithout s ps → AllWithout s (with_front b ps)
front_without s b [] other all = ((other, tt), tt)
front_without s b (p ∷ ps) other all = ((other, all.0), all.1)

pub parts_without : (s : ℕ) (text : List ℕ) → AllWithout s (parts s text)
parts_without s [] = (tt, tt)
parts_without s (b ∷ bs) = by (b == s) refl (parts_without s bs)
  where
    by : (same : Bool) → (b == s) ≡ same → AllWithout s (parts s bs) → AllWithout s (if same then [] ∷ parts s bs else with_front b (parts s bs))
    by true e rest = (tt, rest)
    by false e rest = front_without s b (parts s bs) e rest

joined_front : (s b : ℕ) (ps : List (List ℕ)) → 1 ≤ length ps → joined s (with_front b ps) ≡ b ∷ joined s ps
joined_front s b [] some = absurd (omega arith)
joined_front s b (p ∷ []) some = refl
joined_front s b (p ∷ q ∷ ps) some = refl

pub joined_behind : (s : ℕ) (p : List ℕ) (ps : List (List ℕ)) → 1 ≤ length ps → joined s (p ∷ ps) ≡ p ++ s ∷ joined s ps
joined_behind s p [] some = absurd (omega arith)
joined_behind s p (q ∷ ps) some = refl

-- the parts, joined, are the text
pub joined_parts : (s : ℕ) (text : List ℕ) → joined s (parts s text) ≡ text
joined_parts s [] = refl
joined_parts s (b ∷ bs) = by (b == s) refl (joined_parts s bs)
  where
    by : (same : Bool) → (b == s) ≡ same → joined s (parts s bs) ≡ bs → joined s (if same then [] ∷ parts s bs else with_front b (parts s bs)) ≡ b ∷ bs
    by true e rest = let is : b ≡ s = grind (arith, nat_tests) in joined_behind s [] (parts s bs) (some_part s bs) ∙ ap (λ xs. s ∷ xs) rest ∙ ap (λ x. x ∷ bs) (sym is)
    by false e rest = joined_front s b (parts s bs) (some_part s bs) ∙ ap (λ xs. b ∷ xs) rest

-- what is joined is taken apart again
pub parts_joined : (s : ℕ) (w : List ℕ) (ws : List (List ℕ)) → AllWithout s (w ∷ ws) → parts s (joined s (w ∷ ws)) ≡ w ∷ ws
parts_joined s w [] all = parts_last s w all.0
parts_joined s w (x ∷ ws) all = parts_word s w (joined s (x ∷ ws)) all.0 ∙ ap (λ ps. w ∷ ps) (parts_joined s x ws all.1)

-- ---- words

-- each byte is above this one
abbrev pub over : ℕ → List ℕ → Bool
over low [] = true
over low (b ∷ bs) = nat_lt low b && over low bs

pub over-append : (low : ℕ) (xs ys : List ℕ) → over low xs ≡ true → over low ys ≡ true → over low (xs ++ ys) ≡ true
over-append low [] ys first second = second
over-append low (b ∷ bs) ys first second =
    let both = and_parts (nat_lt low b) (over low bs) first in
    rw both.0 (over-append low bs ys both.1 second)

digit_over : (low n : ℕ) → low < 48 → n < 10 → over low ((48 + n) ∷ []) ≡ true
digit_over low n below small = grind (arith, nat_tests)

-- decimal digits begin at 48
pub over-decimal : (low n : ℕ) → low < 48 → n < 2 ^ 64 → over low (decimal n) ≡ true
over-decimal low n below small =
    decimal_by_steps (λ n ds. over low ds ≡ true) (λ n few. digit_over low n below few)
    (λ n ds more so_far. over-append low ds ((48 + n % 10) ∷ []) so_far (digit_over low (n % 10) below (omega arith))) n small

hex_digit_over : (n : ℕ) → nat_lt 32 (hex_digit n) ≡ true
hex_digit_over n = grind (arith, nat_tests)

pub over-hex : (w n : ℕ) → over 32 (hex w n) ≡ true
over-hex zero n = refl
over-hex (suc w) n = rw (hex_digit_over ((n / 16 ^ w) % 16)) (over-hex w n)

pub over-hex_bytes : (bytes : List ℕ) → over 32 (hex_bytes bytes) ≡ true
over-hex_bytes [] = refl
over-hex_bytes (b ∷ bs) = over-append 32 (hex 2 b) (hex_bytes bs) (over-hex 2 b) (over-hex_bytes bs)

over-identifier : (ext : Bool) (id : ℕ) → over 32 (identifier_text ext id) ≡ true
over-identifier false id = over-hex 3 id
over-identifier true id = over-hex 8 id

over-data : (kind : Kind) (bytes : List ℕ) → over 32 (data_text kind bytes) ≡ true
over-data Data bytes = over-hex_bytes bytes
over-data Remote bytes = refl
over-data (Fd brs esi) bytes = rw (hex_digit_over (flag brs 1 + flag esi 2)) (over-hex_bytes bytes)

pub over-frame : (f : Frame) → over 32 (frame_text f) ≡ true
over-frame f = over-append 32 (identifier_text f.ext f.id ++ codes "#") (data_text f.kind f.bytes)
    (over-append 32 (identifier_text f.ext f.id) (codes "#") (over-identifier f.ext f.id) refl) (over-data f.kind f.bytes)

other_byte : (low s b : ℕ) → s ≤ low → nat_lt low b ≡ true → (b == s) ≡ false
other_byte low s b below high = grind (arith, nat_tests)

-- a word is without a separator
pub without-over : (low s : ℕ) (w : List ℕ) → s ≤ low → over low w ≡ true → Without s w
without-over low s [] below high = tt
without-over low s (b ∷ bs) below high =
    let both = and_parts (nat_lt low b) (over low bs) high in
    (other_byte low s b below both.0, without-over low s bs below both.1)

pub without-append : (s : ℕ) (xs ys : List ℕ) → Without s xs → Without s ys → Without s (xs ++ ys)
without-append s [] ys first second = second
without-append s (b ∷ bs) ys first second = (first.0, without-append s bs ys first.1 second)

abbrev pub all_over : ℕ → List (List ℕ) → Bool
all_over low [] = true
all_over low (w ∷ ws) = over low w && all_over low ws

pub all_without : (low s : ℕ) (ws : List (List ℕ)) → s ≤ low → all_over low ws ≡ true → AllWithout s ws
all_without low s [] below high = tt
all_without low s (w ∷ ws) below high =
    let both = and_parts (over low w) (all_over low ws) high in
    (without-over low s w below both.0, all_without low s ws below both.1)

-- words with spaces between them are a line
pub line_without : (ws : List (List ℕ)) → all_over 32 ws ≡ true → Without 10 (joined 32 ws)
line_without [] high = tt
line_without (w ∷ []) high = without-over 32 10 w (omega arith) (and_parts (over 32 w) true high).0
line_without (w ∷ x ∷ ws) high =
    let both = and_parts (over 32 w) (all_over 32 (x ∷ ws)) high in
    without-append 10 w (32 ∷ joined 32 (x ∷ ws)) (without-over 32 10 w (omega arith) both.0) (refl, line_without (x ∷ ws) both.1)

-- a line is its words
pub words_of_line : (w : List ℕ) (ws : List (List ℕ)) → all_over 32 (w ∷ ws) ≡ true → parts 32 (joined 32 (w ∷ ws)) ≡ w ∷ ws
words_of_line w ws high = parts_joined 32 w ws (all_without 32 32 (w ∷ ws) (omega arith) high)

-- what stands before a line feed that is the only one
pub cut_line : (line : List ℕ) → Without 10 line → cut 10 (line ++ 10 ∷ []) ≡ Some (line, [])
cut_line [] none = refl
cut_line (b ∷ bs) none = rw none.0 (ap (option_map (λ p. (b ∷ p.0, p.1))) (cut_line bs none.1))
