-- The words of a line: each is read as what it is the text of, and what is read has that text.
use Rattle.std.proofs.Common.{◌≡◌, ◌≤◌, ◌<◌, ℕ, ◌+◌, ◌*◌, ◌/◌, ◌%◌, ◌^◌, Bool, true, false, List, [], ◌∷◌, ◌++◌, length, Some, None, refl, sym, ap, subst, ◌∙◌, arith, length-append}
use Rattle.std.specs.Prelude.{nat_lt, nat_le, decimal, codes, bytes_eq, option_and_then, option_map, if◌then◌else◌, All}
use Rattle.std.proofs.lemmas.Bool.{and_parts, and_from, false_from_ne_true}
use Rattle.std.proofs.lemmas.Bool.Decides.{nat_tests}
use Rattle.std.proofs.lemmas.List.Elements.{All-nil, All-cons, All-head, All-tail}
use Rattle.std.proofs.lemmas.Option.{same_Some}
use Rattle.std.proofs.lemmas.Slice.Eq.{bytes_eq-Decides}
use Rattle.std.proofs.lemmas.Fmt.{decimal_nonempty}
use Rattle.frame_specs.specs.Frame.{Frame, is_well_formed}
use Rattle.frame_specs.specs.FrameText.{frame_text, hex, hex_bytes}
use Rattle.frame_specs.specs.FrameReading.{frame_of, bytes_of}
use Rattle.frame_specs.proofs.FrameReadingLaws.{frame_of_from_spells, spells_from_frame_of, bytes_of-hex_bytes, hex_bytes-spelled}
use Rattle.log_specs.specs.Line.{bytes_text, joined, numbers, numbers_text}
use Rattle.plain_text.specs.Parts.{parts}
use Rattle.log_lines.specs.IsLine.{is_within, rise_from, all_below, frame_fits}
use Rattle.bus_log.specs.Verbs.{named}
use Rattle.bus_log.specs.Reading.{word32, rising_from, numbers_in, counted, bytes_in, four, id_in}
use Rattle.plain_text.specs.Decimal.{number_in, number_of}
use Rattle.plain_text.proofs.Options.{bind_some, map_some, if_some}
use Rattle.plain_text.proofs.Decimals.{number_in-decimal, number_in-some}
use Rattle.plain_text.specs.Decimal.{Between}
use Rattle.plain_text.proofs.Separators.{over, over-decimal, all_over, all_without, parts_joined, joined_parts, some_part}
use Rattle.log_lines.proofs.Texts.{hex_of_bytes}

pub word_is : (text word : List ℕ) → bytes_eq text word ≡ true → text ≡ word
word_is text word same = (bytes_eq-Decides text word).0 same

other_word : (text word : List ℕ) → (text ≡ word → ⊥) → bytes_eq text word ≡ false
other_word text word other = false_from_ne_true (bytes_eq text word) (λ same. other (word_is text word same))

pub is_within-from : (low high n : ℕ) → low ≤ n → n ≤ high → is_within low high n ≡ true
is_within-from low high n l h = grind (arith, nat_tests)

pub is_within-parts : (low high n : ℕ) → is_within low high n ≡ true → Between low high n
is_within-parts low high n inside =
    let both = and_parts (nat_le low n) (nat_le n high) inside in
    let l : nat_le low n ≡ true = both.0 in
    let h : nat_le n high ≡ true = both.1 in
    (grind (arith, nat_tests), grind (arith, nat_tests))

pub below_limit : (n limit : ℕ) → n < limit → nat_lt n limit ≡ true
below_limit n limit small = grind (arith, nat_tests)

pub limit_above : (n limit : ℕ) → nat_lt n limit ≡ true → n < limit
limit_above n limit small = grind (arith, nat_tests)

-- ---- names

pub named-some : {A : Type 0} (text : A → List ℕ) (all : List A) (word : List ℕ) (a : A) → named text all word ≡ Some a → text a ≡ word
named-some text [] word a found = cc found
named-some text (x ∷ xs) word a found = by (bytes_eq word (text x)) refl (named-some text xs word a) found
  where
    by : (same : Bool) → bytes_eq word (text x) ≡ same → (named text xs word ≡ Some a → text a ≡ word)
        → (if same then Some x else named text xs word) ≡ Some a → text a ≡ word
    by true e later here = let is : x ≡ a = same_Some x a here in ap text (sym is) ∙ sym (word_is word (text x) e)
    by false e later here = later here

-- ---- numbers

no_dash : (low high : ℕ) → number_in low high (codes "-") ≡ None
unfolding number_in number_of
no_dash low high = refl

pub decimal_no_dash : (n : ℕ) → n < 2 ^ 32 → bytes_eq (decimal n) (codes "-") ≡ false
decimal_no_dash n small = other_word (decimal n) (codes "-") (λ same.
    let read : number_in 0 word32 (decimal n) ≡ Some n = number_in-decimal 0 word32 n (omega arith) (omega arith, omega arith) in
    let none : number_in 0 word32 (decimal n) ≡ None = ap (number_in 0 word32) same ∙ no_dash 0 word32 in
    let never : Some n ≡ None = sym read ∙ none in
    cc never)

rising-numbers : (low : ℕ) (ns : List ℕ) → rise_from low ns ≡ true → all_below (2 ^ 32) ns ≡ true → rising_from low (numbers ns) ≡ Some ns
rising-numbers low [] rises small = refl
rising-numbers low (n ∷ ns) rises small =
    let r = and_parts (nat_le low n) (rise_from (n + 1) ns) rises in
    let s = and_parts (nat_lt n (2 ^ 32)) (all_below (2 ^ 32) ns) small in
    let above : low ≤ n = let t : nat_le low n ≡ true = r.0 in grind (arith, nat_tests) in
    let below : n < 2 ^ 32 = limit_above n (2 ^ 32) s.0 in
    let read = number_in-decimal low word32 n (omega arith) (above, omega arith) in
    rw (read, rising-numbers (n + 1) ns r.1 s.1) refl

numbers_over : (low : ℕ) (ns : List ℕ) → low < 48 → all_below (2 ^ 32) ns ≡ true → all_over low (numbers ns) ≡ true
numbers_over low [] digits small = refl
numbers_over low (n ∷ ns) digits small =
    let s = and_parts (nat_lt n (2 ^ 32)) (all_below (2 ^ 32) ns) small in
    let below : n < 2 ^ 32 = limit_above n (2 ^ 32) s.0 in
    and_from (over low (decimal n)) (all_over low (numbers ns)) (over-decimal low n digits (omega arith)) (numbers_over low ns digits s.1)

numbers_no_dash : (n : ℕ) (ns : List ℕ) → n < 2 ^ 32 → bytes_eq (numbers_text (n ∷ ns)) (codes "-") ≡ false
numbers_no_dash n [] small = decimal_no_dash n small
numbers_no_dash n (m ∷ ns) small =
    let rest : List ℕ = joined 44 (decimal m ∷ numbers ns) in
    other_word (decimal n ++ 44 ∷ rest) (codes "-") (λ same.
    let long : length (decimal n ++ 44 ∷ rest) ≡ 1 = ap length same in
    omega (arith, decimal_nonempty n (omega arith), length-append (decimal n) (44 ∷ rest), long))

pub numbers_in-text : (ns : List ℕ) → rise_from 0 ns ≡ true → all_below (2 ^ 32) ns ≡ true → numbers_in (numbers_text ns) ≡ Some ns
unfolding numbers_in
numbers_in-text [] rises small = refl
numbers_in-text (n ∷ ns) rises small =
    let s = and_parts (nat_lt n (2 ^ 32)) (all_below (2 ^ 32) ns) small in
    let apart = parts_joined 44 (decimal n) (numbers ns) (all_without 44 44 (numbers (n ∷ ns)) (omega arith)
    (numbers_over 44 (n ∷ ns) (omega arith) small)) in
    rw (numbers_no_dash n ns (limit_above n (2 ^ 32) s.0)) (ap (rising_from 0) apart ∙ rising-numbers 0 (n ∷ ns) rises small)

-- numbers that rise, and their texts
record AreNumbers (low : ℕ) (ns : List ℕ) (ws : List (List ℕ)) : Type 0 where
  rises : rise_from low ns ≡ true
  small : all_below (2 ^ 32) ns ≡ true
  written : numbers ns ≡ ws

rising-some : (low : ℕ) (ws : List (List ℕ)) (ns : List ℕ) → rising_from low ws ≡ Some ns → AreNumbers low ns ws
rising-some low [] ns read =
    let none : [] ≡ ns = same_Some [] ns read in
    let P : List ℕ → Type 0 = λ xs. AreNumbers low xs [] in
    let empty : P [] = record { rises = refl; small = refl; written = refl } in
    subst P none empty
rising-some low (w ∷ ws) ns read =
    let first = bind_some (number_in low word32 w) (λ n. option_map (λ xs. n ∷ xs) (rising_from (n + 1) ws)) ns read in
    let n = first.0 in
    let rest = map_some (rising_from (n + 1) ws) (λ xs. n ∷ xs) ns first.2 in
    let is = number_in-some low word32 n w (omega arith) first.1 in
    let others = rising-some (n + 1) ws rest.0 rest.1 in
    let above : nat_le low n ≡ true = let l : low ≤ n = is.range.0 in grind (arith, nat_tests) in
    let below : nat_lt n (2 ^ 32) ≡ true = below_limit n (2 ^ 32) (omega (arith, is.range.1)) in
    let P : List ℕ → Type 0 = λ xs. AreNumbers low xs (w ∷ ws) in
    let all : P (n ∷ rest.0) = record {
      rises = and_from (nat_le low n) (rise_from (n + 1) rest.0) above others.rises;
      small = and_from (nat_lt n (2 ^ 32)) (all_below (2 ^ 32) rest.0) below others.small;
      written = ap (λ x. x ∷ numbers rest.0) is.written ∙ ap (λ xs. w ∷ xs) others.written;
    } in
    subst P rest.2 all

numbers_text-joined : (ns : List ℕ) → 1 ≤ length (numbers ns) → numbers_text ns ≡ joined 44 (numbers ns)
numbers_text-joined [] some = absurd (omega arith)
numbers_text-joined (n ∷ ns) some = refl

-- numbers that a line may name, and their text
pub record AreReceivers (ns : List ℕ) (text : List ℕ) : Type 0 where
  pub rises : rise_from 0 ns ≡ true
  pub small : all_below (2 ^ 32) ns ≡ true
  pub written : numbers_text ns ≡ text

pub numbers_in-some : (text : List ℕ) (ns : List ℕ) → numbers_in text ≡ Some ns → AreReceivers ns text
unfolding numbers_in
numbers_in-some text ns read = by (bytes_eq text (codes "-")) refl read
  where
    by : (dash : Bool) → bytes_eq text (codes "-") ≡ dash → (if dash then Some [] else rising_from 0 (parts 44 text)) ≡ Some ns
        → AreReceivers ns text
    by true e read' =
        let none : [] ≡ ns = same_Some [] ns read' in
        let P : List ℕ → Type 0 = λ xs. AreReceivers xs text in
        let empty : P [] = record { rises = refl; small = refl; written = sym (word_is text (codes "-") e) } in
        subst P none empty
    by false e read' =
        let are = rising-some 0 (parts 44 text) ns read' in
        let some : 1 ≤ length (numbers ns) = omega (arith, ap length are.written, some_part 44 text) in
        record {
          rises = are.rises;
          small = are.small;
          written = numbers_text-joined ns some ∙ ap (joined 44) are.written ∙ joined_parts 44 text;
        }

-- ---- bytes

pub all_below-All : (bs : List ℕ) → all_below 256 bs ≡ true → All (λ b. b < 256) bs
all_below-All [] small = All-nil (λ b. b < 256)
all_below-All (b ∷ bs) small =
    let s = and_parts (nat_lt b 256) (all_below 256 bs) small in
    All-cons (λ x. x < 256) b bs (limit_above b 256 s.0) (all_below-All bs s.1)

pub All-all_below : (bs : List ℕ) → All (λ b. b < 256) bs → all_below 256 bs ≡ true
All-all_below [] small = refl
All-all_below (b ∷ bs) small =
    and_from (nat_lt b 256) (all_below 256 bs) (below_limit b 256 (All-head (λ x. x < 256) b bs small))
    (All-all_below bs (All-tail (λ x. x < 256) b bs small))

bytes_no_dash : (b : ℕ) (bs : List ℕ) → bytes_eq (hex_bytes (b ∷ bs)) (codes "-") ≡ false
bytes_no_dash b bs = other_word (hex_bytes (b ∷ bs)) (codes "-")
    (λ same. let long : length (hex_bytes (b ∷ bs)) ≡ 1 = ap length same in omega (arith, long))

counted-some : (least : ℕ) (bs h : List ℕ) → counted least bs ≡ Some h → (bs ≡ h) × (is_within least 64 (length bs) ≡ true)
counted-some least bs h read =
    let test = if_some (is_within least 64 (length bs)) (Some bs) h read in
    (same_Some bs h test.1, test.0)

counted-all : (least : ℕ) (bs : List ℕ) → is_within least 64 (length bs) ≡ true → counted least bs ≡ Some bs
counted-all least bs fits = rw fits refl

pub bytes_in-text : (least : ℕ) (bs : List ℕ) → is_within least 64 (length bs) ≡ true → all_below 256 bs ≡ true
    → bytes_in least (bytes_text bs) ≡ Some bs
unfolding bytes_in
bytes_in-text least [] fits small = counted-all least [] fits
bytes_in-text least (b ∷ bs) fits small =
    let inside : is_within 1 64 (length (b ∷ bs)) ≡ true = is_within-from 1 64 (length (b ∷ bs)) (omega arith)
    ((is_within-parts least 64 (length (b ∷ bs)) fits).1) in
    rw (bytes_no_dash b bs) (ap (option_and_then (counted 1)) (bytes_of-hex_bytes (b ∷ bs) (all_below-All (b ∷ bs) small))
    ∙ counted-all 1 (b ∷ bs) inside)

bytes_text-some : (bs : List ℕ) → 1 ≤ length bs → bytes_text bs ≡ hex_bytes bs
bytes_text-some [] some = absurd (omega arith)
bytes_text-some (b ∷ bs) some = refl

-- bytes that a line may have, so many at least, and their text
pub record AreBytes (least : ℕ) (bs text : List ℕ) : Type 0 where
  pub counted : is_within least 64 (length bs) ≡ true
  pub small : all_below 256 bs ≡ true
  pub written : bytes_text bs ≡ text

pub bytes_in-some : (least : ℕ) (text bs : List ℕ) → least ≤ 1 → bytes_in least text ≡ Some bs → AreBytes least bs text
unfolding bytes_in
bytes_in-some least text bs low read = by (bytes_eq text (codes "-")) refl read
  where
    by : (dash : Bool) → bytes_eq text (codes "-") ≡ dash → (if dash then counted least [] else option_and_then (counted 1) (bytes_of text))
        ≡ Some bs → AreBytes least bs text
    by true e read' =
        let none = counted-some least [] bs read' in
        let P : List ℕ → Type 0 = λ xs. AreBytes least xs text in
        let empty : P [] = record { counted = none.1; small = refl; written = sym (word_is text (codes "-") e) } in
        subst P none.0 empty
    by false e read' =
        let found = bind_some (bytes_of text) (counted 1) bs read' in
        let some = counted-some 1 found.0 bs found.2 in
        let inside = is_within-parts 1 64 (length found.0) some.1 in
        let spelled = hex_bytes-spelled text found.0 found.1 in
        let P : List ℕ → Type 0 = λ xs. AreBytes least xs text in
        let all : P found.0 = record {
          counted = is_within-from least 64 (length found.0) (omega (arith, inside.0)) inside.1;
          small = All-all_below found.0 spelled.1;
          written = bytes_text-some found.0 inside.0 ∙ spelled.0;
        } in
        subst P some.0 all

-- ---- identifiers

four_bytes : ℕ → List ℕ
four_bytes id = id / 2 ^ 24 ∷ id / 2 ^ 16 % 256 ∷ id / 2 ^ 8 % 256 ∷ id % 256 ∷ []

four_whole : (id : ℕ) → 2 ^ 24 * (id / 2 ^ 24) + 2 ^ 16 * (id / 2 ^ 16 % 256) + 2 ^ 8 * (id / 2 ^ 8 % 256) + id % 256 ≡ id
four_whole id = omega arith

byte_and : (b : ℕ) (bs : List ℕ) → b < 256 → all_below 256 bs ≡ true → all_below 256 (b ∷ bs) ≡ true
byte_and b bs small rest = and_from (nat_lt b 256) (all_below 256 bs) (below_limit b 256 small) rest

four_small : (id : ℕ) → id < 2 ^ 32 → all_below 256 (four_bytes id) ≡ true
unfolding four_bytes
four_small id small =
    byte_and (id / 2 ^ 24) (id / 2 ^ 16 % 256 ∷ id / 2 ^ 8 % 256 ∷ id % 256 ∷ []) (omega arith)
    (byte_and (id / 2 ^ 16 % 256) (id / 2 ^ 8 % 256 ∷ id % 256 ∷ []) (omega arith)
    (byte_and (id / 2 ^ 8 % 256) (id % 256 ∷ []) (omega arith) (byte_and (id % 256) [] (omega arith) refl)))

pub id_in-text : (id : ℕ) → id < 2 ^ 32 → id_in (hex 8 id) ≡ Some id
unfolding id_in four_bytes
id_in-text id small =
    ap (λ t. option_and_then four (bytes_of t)) (hex_of_bytes id)
    ∙ ap (option_and_then four) (bytes_of-hex_bytes (four_bytes id) (all_below-All (four_bytes id) (four_small id small)))
    ∙ ap Some (four_whole id)

pub record IsId (id : ℕ) (text : List ℕ) : Type 0 where
  pub small : id < 2 ^ 32
  pub written : hex 8 id ≡ text

-- an identifier is its four bytes
four_back : (a b c d id : ℕ) → a < 256 → b < 256 → c < 256 → d < 256 → 2 ^ 24 * a + 2 ^ 16 * b + 2 ^ 8 * c + d ≡ id
    → (id / 2 ^ 24 ≡ a) × (id / 2 ^ 16 % 256 ≡ b) × (id / 2 ^ 8 % 256 ≡ c) × (id % 256 ≡ d) × (id < 2 ^ 32)
four_back a b c d id la lb lc ld is = (omega arith, omega arith, omega arith, omega arith, omega arith)

four-some : (bs : List ℕ) (id : ℕ) → four bs ≡ Some id → All (λ b. b < 256) bs → (id < 2 ^ 32) × (hex 8 id ≡ hex_bytes bs)
four-some [] id read small = cc read
four-some (a ∷ []) id read small = cc read
four-some (a ∷ b ∷ []) id read small = cc read
four-some (a ∷ b ∷ c ∷ []) id read small = cc read
four-some (a ∷ b ∷ c ∷ d ∷ []) id read small =
    let P : ℕ → Type 0 = λ x. x < 256 in
    let s1 = All-tail P a (b ∷ c ∷ d ∷ []) small in
    let s2 = All-tail P b (c ∷ d ∷ []) s1 in
    let s3 = All-tail P c (d ∷ []) s2 in
    let value : 2 ^ 24 * a + 2 ^ 16 * b + 2 ^ 8 * c + d ≡ id = same_Some (2 ^ 24 * a + 2 ^ 16 * b + 2 ^ 8 * c + d) id read in
    let back = four_back a b c d id (All-head P a (b ∷ c ∷ d ∷ []) small) (All-head P b (c ∷ d ∷ []) s1) (All-head P c (d ∷ []) s2)
    (All-head P d [] s3) value in (
      back.4,
      hex_of_bytes id ∙ ap (λ x. hex_bytes (x ∷ id / 2 ^ 16 % 256 ∷ id / 2 ^ 8 % 256 ∷ id % 256 ∷ [])) back.0
          ∙ ap (λ x. hex_bytes (a ∷ x ∷ id / 2 ^ 8 % 256 ∷ id % 256 ∷ [])) back.1 ∙ ap (λ x. hex_bytes (a ∷ b ∷ x ∷ id % 256 ∷ [])) back.2
          ∙ ap (λ x. hex_bytes (a ∷ b ∷ c ∷ x ∷ [])) back.3,
    )
four-some (a ∷ b ∷ c ∷ d ∷ e ∷ bs) id read small = cc read

pub id_in-some : (text : List ℕ) (id : ℕ) → id_in text ≡ Some id → IsId id text
unfolding id_in
id_in-some text id read =
    let found = bind_some (bytes_of text) four id read in
    let spelled = hex_bytes-spelled text found.0 found.1 in
    let is = four-some found.0 id found.2 spelled.1 in
    record { small = is.0; written = is.1 ∙ spelled.0 }

-- ---- frames

pub frame_of-text : (f : Frame) → frame_fits f ≡ true → frame_of (frame_text f) ≡ Some f
frame_of-text f fits =
    let both = and_parts (is_well_formed f) (all_below 256 f.bytes) fits in
    frame_of_from_spells (frame_text f) f record { well_formed = both.0; bytes = all_below-All f.bytes both.1; spelled = refl }

pub record IsFrame (f : Frame) (text : List ℕ) : Type 0 where
  pub fits : frame_fits f ≡ true
  pub written : frame_text f ≡ text

pub frame_of-some : (text : List ℕ) (f : Frame) → frame_of text ≡ Some f → IsFrame f text
frame_of-some text f read =
    let spells = spells_from_frame_of text f read in
    record {
      fits = and_from (is_well_formed f) (all_below 256 f.bytes) spells.well_formed (All-all_below f.bytes spells.bytes);
      written
          = spells.spelled;
    }
