-- The text of a line is read as that line.
use Rattle.std.proofs.Common.{◌≡◌, ◌<◌, ◌≤◌, ℕ, ◌^◌, ◌&&◌, ◌||◌, ◌==◌, true, List, [], ◌∷◌, ◌++◌, Some, refl, sym, ap, subst, ◌∙◌, arith}
use Rattle.std.specs.Prelude.{nat_lt, decimal, codes, option_and_then, option_map}
use Rattle.std.proofs.lemmas.Bool.{and_parts}
use Rattle.std.proofs.lemmas.Bool.Decides.{nat_tests}
use Rattle.operation_specs.specs.Operation.{Declared, Active, Passive, Off}
use Rattle.frame_specs.specs.FrameText.{frame_text, hex}
use Rattle.log_specs.specs.Line as log
use Rattle.log_specs.specs.Line.{Line, On, Down, Over, End, Told, Cause, said, words, joined, line_text, level_text, cause_text, bytes_text, numbers, numbers_text}
use Rattle.log_lines.specs.IsLine.{is_within, is_told, all_below, frame_fits, told_fits, IsLine, Fits}
use Rattle.bus_log.specs.Reading.{word32, word64, cause_named, level_named, told_in, status_of, line_in, line_of_text}
use Rattle.plain_text.specs.Decimal.{number_in}
use Rattle.plain_text.proofs.Decimals.{number_in-decimal}
use Rattle.plain_text.proofs.Separators.{over, all_over, over-append, over-decimal, over-hex, over-hex_bytes, over-frame, line_without, words_of_line, cut_line}
use Rattle.bus_log.proofs.Fields.{decimal_no_dash, is_within-parts, limit_above, numbers_in-text, bytes_in-text, id_in-text, frame_of-text}

-- ---- each word is above the space

level_over : (l : Declared) → over 32 (level_text l) ≡ true
level_over Active = refl
level_over Passive = refl
level_over Off = refl

cause_over : (c : Cause) → over 32 (cause_text c) ≡ true
cause_over log.Trap = refl
cause_over log.Spent = refl
cause_over log.Status2 = refl
cause_over log.Status3 = refl
cause_over log.Status4 = refl
cause_over log.BadReply = refl
cause_over log.BadBuffer = refl
cause_over log.Loop = refl
cause_over log.BadInterval = refl

bytes_over : (bs : List ℕ) → over 32 (bytes_text bs) ≡ true
bytes_over [] = refl
bytes_over (b ∷ bs) = over-hex_bytes (b ∷ bs)

number_over : (n : ℕ) → nat_lt n (2 ^ 32) ≡ true → over 32 (decimal n) ≡ true
number_over n small = over-decimal 32 n (omega arith) (omega (arith, limit_above n (2 ^ 32) small))

joined_over : (n : ℕ) (ns : List ℕ) → all_below (2 ^ 32) (n ∷ ns) ≡ true → over 32 (joined 44 (numbers (n ∷ ns))) ≡ true
joined_over n [] small = number_over n (and_parts (nat_lt n (2 ^ 32)) true small).0
joined_over n (m ∷ ns) small =
    let s = and_parts (nat_lt n (2 ^ 32)) (all_below (2 ^ 32) (m ∷ ns)) small in
    over-append 32 (decimal n) (44 ∷ joined 44 (numbers (m ∷ ns))) (number_over n s.0) (joined_over m ns s.1)

numbers_over : (ns : List ℕ) → all_below (2 ^ 32) ns ≡ true → over 32 (numbers_text ns) ≡ true
numbers_over [] small = refl
numbers_over (n ∷ ns) small = joined_over n ns small

one_over : (w : List ℕ) → over 32 w ≡ true → all_over 32 (w ∷ []) ≡ true
one_over w above = rw above refl

two_over : (v w : List ℕ) → over 32 v ≡ true → over 32 w ≡ true → all_over 32 (v ∷ w ∷ []) ≡ true
two_over v w above beyond = rw (above, beyond) refl

three_over : (u v w : List ℕ) → over 32 u ≡ true → over 32 v ≡ true → over 32 w ≡ true → all_over 32 (u ∷ v ∷ w ∷ []) ≡ true
three_over u v w first second third = rw (first, second, third) refl

small_over : (low high n : ℕ) → high < 2 ^ 64 → is_within low high n ≡ true → over 32 (decimal n) ≡ true
small_over low high n limit inside = over-decimal 32 n (omega arith) (omega (arith, (is_within-parts low high n inside).1))

said_over : (told : Told) → is_told told ≡ true → told_fits told ≡ true
    → (over 32 (said told).0 ≡ true) × (all_over 32 (said told).1 ≡ true)
said_over (log.Req f) is fits = (refl, one_over (frame_text f) (over-frame f))
said_over (log.Full f) is fits = (refl, one_over (frame_text f) (over-frame f))
said_over (log.Drop f) is fits = (refl, one_over (frame_text f) (over-frame f))
said_over (log.Start f) is fits = (refl, one_over (frame_text f) (over-frame f))
said_over (log.LostKept f) is fits = (refl, two_over (frame_text f) (codes "keep") (over-frame f) refl)
said_over (log.LostGone f) is fits = (refl, two_over (frame_text f) (codes "gone") (over-frame f) refl)
said_over log.Keep is fits = (refl, refl)
said_over log.Discard is fits = (refl, refl)
said_over log.Wake is fits = (refl, refl)
said_over log.Sleep is fits = (refl, refl)
said_over log.ToldWake is fits = (refl, refl)
said_over log.Back is fits = (refl, refl)
said_over (log.Rate v) is fits = (refl, one_over (decimal v) (number_over v fits))
said_over (log.FdRate v) is fits = (refl, one_over (decimal v) (number_over v fits))
said_over (log.Status l) is fits = (refl, one_over (level_text l) (level_over l))
said_over (log.State l) is fits = (refl, one_over (level_text l) (level_over l))
said_over (log.FormatError h) is fits = (refl, one_over (bytes_text h) (bytes_over h))
said_over (log.Bad h) is fits = (refl, one_over (bytes_text h) (bytes_over h))
said_over (log.ToldFormat h) is fits = (refl, two_over (codes "format") (bytes_text h) refl (bytes_over h))
said_over (log.ToldLost id) is fits = (refl, two_over (codes "lost") (hex 8 id) refl (over-hex 8 id))
said_over (log.Done f ns) is fits =
    let s = and_parts (frame_fits f) (all_below (2 ^ 32) ns) fits in
    (refl, three_over (frame_text f) (codes "to") (numbers_text ns) (over-frame f) refl (numbers_over ns s.1))
said_over (log.Fail f k m) is fits =
    let s = and_parts (frame_fits f) (nat_lt m (2 ^ 32)) fits in
    (refl, three_over (frame_text f) (decimal k) (decimal m) (over-frame f) (small_over 1 5 k (omega arith) is) (number_over m s.1))
said_over (log.Hurt k) is fits = (refl, one_over (decimal k) (small_over 1 4 k (omega arith) is))

-- the tests of a line on a bus
pub record FitsOn (t b n : ℕ) (told : Told) : Type 0 where
  pub moment : t < 2 ^ 64
  pub bus : b < 2 ^ 32
  pub node : n < 2 ^ 32
  pub told_fits : told_fits told ≡ true

on_fits : (t b n : ℕ) (told : Told) → Fits (On t b n told) → FitsOn t b n told
on_fits t b n told fits =
    let all = and_parts (nat_lt t (2 ^ 64) && nat_lt b (2 ^ 32) && nat_lt n (2 ^ 32)) (told_fits told) fits in
    let three = and_parts (nat_lt t (2 ^ 64) && nat_lt b (2 ^ 32)) (nat_lt n (2 ^ 32)) all.0 in
    let two = and_parts (nat_lt t (2 ^ 64)) (nat_lt b (2 ^ 32)) three.0 in
    record {
      moment = limit_above t (2 ^ 64) two.0;
      bus = limit_above b (2 ^ 32) two.1;
      node = limit_above n (2 ^ 32) three.1;
      told_fits
          = all.1;
    }

-- the tests of a line of a node and no bus
unit_fits : (t n : ℕ) → (nat_lt t (2 ^ 64) && nat_lt n (2 ^ 32)) ≡ true → (t < 2 ^ 64) × (n < 2 ^ 32)
unit_fits t n fits =
    let both = and_parts (nat_lt t (2 ^ 64)) (nat_lt n (2 ^ 32)) fits in
    (limit_above t (2 ^ 64) both.0, limit_above n (2 ^ 32) both.1)

status_small : (status : ℕ) → (status == 0 || status == 8) ≡ true → status ≤ 8
status_small status is = grind (arith, nat_tests)

words_over : (line : Line) → IsLine line → Fits line → all_over 32 (words line) ≡ true
words_over (On t b n told) is fits =
    let f = on_fits t b n told fits in
    let s = said_over told is f.told_fits in
    rw (
      over-decimal 32 t (omega arith) f.moment,
      over-decimal 32 b (omega arith) (omega (arith, f.bus)),
      s.0,
      over-decimal 32 n
          (omega arith) (omega (arith, f.node)),
    ) s.1
words_over (Down t n cause) is fits =
    let f = unit_fits t n fits in
    rw (over-decimal 32 t (omega arith) f.0, over-decimal 32 n (omega arith) (omega (arith, f.1)), cause_over cause) refl
words_over (Over t n) is fits =
    let f = unit_fits t n fits in
    rw (over-decimal 32 t (omega arith) f.0, over-decimal 32 n (omega arith) (omega (arith, f.1))) refl
words_over (End status events) is fits =
    let low : status ≤ 8 = status_small status is in
    rw (over-decimal 32 status (omega arith) (omega arith), over-decimal 32 events (omega arith) (limit_above events (2 ^ 64) fits)) refl

-- ---- the words are read

number_read : (n : ℕ) → n < 2 ^ 32 → number_in 0 word32 (decimal n) ≡ Some n
number_read n small = number_in-decimal 0 word32 n (omega arith) (omega arith, omega arith)

long_read : (n : ℕ) → n < 2 ^ 64 → number_in 0 word64 (decimal n) ≡ Some n
long_read n small = number_in-decimal 0 word64 n (omega arith) (omega arith, omega arith)

inside_read : (low high n : ℕ) → high < 2 ^ 64 → is_within low high n ≡ true → number_in low high (decimal n) ≡ Some n
inside_read low high n limit inside = number_in-decimal low high n limit (is_within-parts low high n inside)

level_read : (l : Declared) → level_named (level_text l) ≡ Some l
level_read Active = refl
level_read Passive = refl
level_read Off = refl

cause_read : (c : Cause) → cause_named (cause_text c) ≡ Some c
cause_read log.Trap = refl
cause_read log.Spent = refl
cause_read log.Status2 = refl
cause_read log.Status3 = refl
cause_read log.Status4 = refl
cause_read log.BadReply = refl
cause_read log.BadBuffer = refl
cause_read log.Loop = refl
cause_read log.BadInterval = refl

told_in-said : (told : Told) → is_told told ≡ true → told_fits told ≡ true → told_in (said told).0 (said told).1 ≡ Some told
told_in-said (log.Req f) is fits = ap (option_map log.Req) (frame_of-text f fits)
told_in-said (log.Full f) is fits = ap (option_map log.Full) (frame_of-text f fits)
told_in-said (log.Drop f) is fits = ap (option_map log.Drop) (frame_of-text f fits)
told_in-said (log.Start f) is fits = ap (option_map log.Start) (frame_of-text f fits)
told_in-said (log.LostKept f) is fits = ap (option_map log.LostKept) (frame_of-text f fits)
told_in-said (log.LostGone f) is fits = ap (option_map log.LostGone) (frame_of-text f fits)
told_in-said log.Keep is fits = refl
told_in-said log.Discard is fits = refl
told_in-said log.Wake is fits = refl
told_in-said log.Sleep is fits = refl
told_in-said log.ToldWake is fits = refl
told_in-said log.Back is fits = refl
told_in-said (log.Rate v) is fits = ap (option_map log.Rate) (number_read v (limit_above v (2 ^ 32) fits))
told_in-said (log.FdRate v) is fits = ap (option_map log.FdRate) (number_read v (limit_above v (2 ^ 32) fits))
told_in-said (log.Status l) is fits = ap (option_map log.Status) (level_read l)
told_in-said (log.State l) is fits = ap (option_map log.State) (level_read l)
told_in-said (log.FormatError h) is fits = ap (option_map log.FormatError) (bytes_in-text 0 h is fits)
told_in-said (log.Bad h) is fits = ap (option_map log.Bad) (bytes_in-text 1 h is fits)
told_in-said (log.ToldFormat h) is fits = ap (option_map log.ToldFormat) (bytes_in-text 1 h is fits)
told_in-said (log.ToldLost id) is fits = ap (option_map log.ToldLost) (id_in-text id (limit_above id (2 ^ 32) fits))
told_in-said (log.Done f ns) is fits =
    let s = and_parts (frame_fits f) (all_below (2 ^ 32) ns) fits in
    rw (frame_of-text f s.0, numbers_in-text ns is s.1) refl
told_in-said (log.Fail f k m) is fits =
    let s = and_parts (frame_fits f) (nat_lt m (2 ^ 32)) fits in
    rw (frame_of-text f s.0, inside_read 1 5 k (omega arith) is, number_read m (limit_above m (2 ^ 32) s.1)) refl
told_in-said (log.Hurt k) is fits = ap (option_map log.Hurt) (inside_read 1 4 k (omega arith) is)

status_read : (status : ℕ) → (status == 0 || status == 8) ≡ true → option_and_then status_of (number_in 0 8 (decimal status)) ≡ Some status
status_read status is =
    let low : status ≤ 8 = status_small status is in
    ap (option_and_then status_of) (number_in-decimal 0 8 status (omega arith) (omega arith, low)) ∙ rw is refl

line_in-words : (line : Line) → IsLine line → Fits line → line_in (words line) ≡ Some line
line_in-words (On t b n told) is fits =
    let f = on_fits t b n told fits in
    rw (long_read t f.moment, number_read n f.node, decimal_no_dash b f.bus, number_read b f.bus, told_in-said told is f.told_fits) refl
line_in-words (Down t n cause) is fits =
    let f = unit_fits t n fits in
    rw (long_read t f.0, number_read n f.1) (ap (option_map (Down t n)) (cause_read cause))
line_in-words (Over t n) is fits =
    let f = unit_fits t n fits in
    rw (long_read t f.0, number_read n f.1) refl
line_in-words (End status events) is fits =
    rw (status_read status is, long_read events (limit_above events (2 ^ 64) fits)) refl

-- ---- lines

read_of_words : (w : List ℕ) (ws : List (List ℕ)) → all_over 32 (w ∷ ws) ≡ true
    → line_of_text (joined 32 (w ∷ ws) ++ 10 ∷ []) ≡ line_in (w ∷ ws)
unfolding line_of_text
read_of_words w ws above =
    let whole = cut_line (joined 32 (w ∷ ws)) (line_without (w ∷ ws) above) in
    rw whole (ap line_in (words_of_line w ws above))

text_read : (line : Line) (w : List ℕ) (ws : List (List ℕ)) → words line ≡ w ∷ ws → IsLine line → Fits line
    → line_of_text (line_text line) ≡ Some line
unfolding line_text
text_read line w ws is_words is fits =
    let P : List (List ℕ) → Type 0 = λ xs. all_over 32 xs ≡ true in
    ap (λ xs. line_of_text (joined 32 xs ++ 10 ∷ [])) is_words
    ∙ read_of_words w ws (subst P is_words (words_over line is fits))
    ∙ ap line_in (sym is_words) ∙ line_in-words line is fits

-- the text of a line is read as it
pub line_of_text-line_text : (line : Line) → IsLine line → Fits line → line_of_text (line_text line) ≡ Some line
line_of_text-line_text (On t b n told) is fits = text_read (On t b n told) (decimal t)
    (decimal b ∷ (said told).0 ∷ decimal n ∷ (said told).1) refl is fits
line_of_text-line_text (Down t n cause) is fits = text_read (Down t n cause) (decimal t)
    (codes "-" ∷ codes "down" ∷ decimal n ∷ cause_text cause ∷ []) refl is fits
line_of_text-line_text (Over t n) is fits = text_read (Over t n) (decimal t) (codes "-" ∷ codes "over" ∷ decimal n ∷ []) refl is fits
line_of_text-line_text (End status events) is fits = text_read (End status events) (codes "end") (decimal status ∷ decimal events ∷ []) refl
    is fits
