-- The reader's own walk over a text, which no public clause cites. That it reads each text as the line that it spells is proved in proofs/Written and proofs/Spelled.
use Rattle.std.specs.Prelude.{ℕ, ◌+◌, ◌*◌, ◌^◌, ◌==◌, ◌||◌, List, [], ◌∷◌, length, codes, Option, Some, None, option_and_then, option_map, bytes_eq, if◌then◌else◌}
use Rattle.operation_specs.specs.Operation.{Declared, Active, Passive, Off}
use Rattle.frame_specs.specs.FrameReading.{frame_of, bytes_of, cut}
use Rattle.log_specs.specs.Line as log
use Rattle.log_specs.specs.Line.{Line, On, Down, Over, End, Told, Cause, level_text, cause_text}
use Rattle.plain_text.specs.Parts.{parts}
use Rattle.plain_text.specs.Decimal.{number_in}
use Rattle.log_lines.specs.IsLine.{is_within}
use Rattle.bus_log.specs.Verbs.{named, verb_named}
use Rattle.bus_log.specs.declared.verb.Verb.{Verb}
use Rattle.bus_log.specs.declared.verb.Verb.TheVariants as verb

infixl 10 ◌>>=◌
abbrev ◌>>=◌ : {A B : Type 0} → Option A → (A → Option B) → Option B
o >>= f = option_and_then f o

-- ---- numbers

-- the highest numbers of 32 and of 64 bits
abbrev pub word32 : ℕ
word32 = 0xffff_ffff

abbrev pub word64 : ℕ
word64 = 0xffff_ffff_ffff_ffff

-- numbers that rise from this one on
abbrev pub rising_from : ℕ → List (List ℕ) → Option (List ℕ)
rising_from low [] = Some []
rising_from low (w ∷ ws) = option_and_then (λ n. option_map (λ ns. n ∷ ns) (rising_from (n + 1) ws)) (number_in low word32 w)

unfoldable pub numbers_in : List ℕ → Option (List ℕ)
numbers_in text = if bytes_eq text (codes "-") then Some [] else rising_from 0 (parts 44 text)

-- ---- bytes

abbrev pub counted : ℕ → List ℕ → Option (List ℕ)
counted least bytes = if is_within least 64 (length bytes) then Some bytes else None

-- so many bytes at least, and 64 at most
unfoldable pub bytes_in : ℕ → List ℕ → Option (List ℕ)
bytes_in least text = if bytes_eq text (codes "-") then counted least [] else option_and_then (counted 1) (bytes_of text)

abbrev pub four : List ℕ → Option ℕ
four (a ∷ b ∷ c ∷ d ∷ []) = Some (2 ^ 24 * a + 2 ^ 16 * b + 2 ^ 8 * c + d)
four _ = None

-- an identifier in eight hexadecimal digits
unfoldable pub id_in : List ℕ → Option ℕ
id_in text = option_and_then four (bytes_of text)

-- ---- what is told

abbrev pub levels : List Declared
levels = Active ∷ Passive ∷ Off ∷ []

abbrev pub level_named : List ℕ → Option Declared
level_named word = named level_text levels word

abbrev pub causes : List Cause
causes = log.Trap ∷ log.Spent ∷ log.Status2 ∷ log.Status3 ∷ log.Status4 ∷ log.BadReply ∷ log.BadBuffer ∷ log.Loop ∷ log.BadInterval ∷ []

abbrev pub cause_named : List ℕ → Option Cause
cause_named word = named cause_text causes word

-- nothing stands there
abbrev pub bare : {A : Type 0} → A → List (List ℕ) → Option A
bare a [] = Some a
bare a (w ∷ ws) = None

-- one word stands there
abbrev pub one : {A : Type 0} → (List ℕ → Option A) → List (List ℕ) → Option A
one read [] = None
one read (w ∷ []) = read w
one read (w ∷ x ∷ ws) = None

abbrev pub lost_in : List (List ℕ) → Option Told
lost_in [] = None
lost_in (f ∷ []) = None
lost_in (f ∷ w ∷ []) =
    if bytes_eq w (codes "keep") then option_map log.LostKept (frame_of f)
    else if bytes_eq w (codes "gone") then option_map log.LostGone (frame_of f) else None
lost_in (f ∷ w ∷ x ∷ ws) = None

abbrev pub wake_in : List ℕ → Option Told
wake_in w = if bytes_eq w (codes "wake") then Some log.ToldWake else None

abbrev pub text_in : List ℕ → List ℕ → Option Told
text_in w text =
    if bytes_eq w (codes "lost") then option_map log.ToldLost (id_in text)
    else if bytes_eq w (codes "format") then option_map log.ToldFormat (bytes_in 1 text) else None

abbrev pub notice_in : List (List ℕ) → Option Told
notice_in [] = None
notice_in (w ∷ []) = wake_in w
notice_in (w ∷ text ∷ []) = text_in w text
notice_in (w ∷ text ∷ x ∷ ws) = None

abbrev pub done_in : List (List ℕ) → Option Told
done_in [] = None
done_in (f ∷ []) = None
done_in (f ∷ w ∷ []) = None
done_in (f ∷ w ∷ ns ∷ []) =
    if bytes_eq w (codes "to") then option_and_then (λ frame. option_map (log.Done frame) (numbers_in ns)) (frame_of f) else None
done_in (f ∷ w ∷ ns ∷ x ∷ ws) = None

abbrev pub fail_in : List (List ℕ) → Option Told
fail_in [] = None
fail_in (f ∷ []) = None
fail_in (f ∷ k ∷ []) = None
fail_in (f ∷ k ∷ m ∷ []) = do
  frame ← frame_of f
  kind ← number_in 1 5 k
  by ← number_in 0 word32 m
  Some (log.Fail frame kind by)
fail_in (f ∷ k ∷ m ∷ x ∷ ws) = None

abbrev pub told_by : Verb → List (List ℕ) → Option Told
told_by verb.Req rest = option_map log.Req (one frame_of rest)
told_by verb.Full rest = option_map log.Full (one frame_of rest)
told_by verb.Drop rest = option_map log.Drop (one frame_of rest)
told_by verb.Start rest = option_map log.Start (one frame_of rest)
told_by verb.Keep rest = bare log.Keep rest
told_by verb.Discard rest = bare log.Discard rest
told_by verb.Wake rest = bare log.Wake rest
told_by verb.Sleep rest = bare log.Sleep rest
told_by verb.Back rest = bare log.Back rest
told_by verb.Rate rest = option_map log.Rate (one (number_in 0 word32) rest)
told_by verb.FdRate rest = option_map log.FdRate (one (number_in 0 word32) rest)
told_by verb.Status rest = option_map log.Status (one level_named rest)
told_by verb.State rest = option_map log.State (one level_named rest)
told_by verb.FormatError rest = option_map log.FormatError (one (bytes_in 0) rest)
told_by verb.Bad rest = option_map log.Bad (one (bytes_in 1) rest)
told_by verb.Told rest = notice_in rest
told_by verb.Lost rest = lost_in rest
told_by verb.Done rest = done_in rest
told_by verb.Fail rest = fail_in rest
told_by verb.Hurt rest = option_map log.Hurt (one (number_in 1 4) rest)

abbrev pub told_in : List ℕ → List (List ℕ) → Option Told
told_in word rest = option_and_then (λ v. told_by v rest) (verb_named word)

-- ---- lines

abbrev pub bus_line_in : ℕ → List ℕ → List ℕ → ℕ → List (List ℕ) → Option Line
bus_line_in moment bus word node rest = do
  b ← number_in 0 word32 bus
  told ← told_in word rest
  Some (On moment b node told)

abbrev pub unit_line_in : ℕ → List ℕ → ℕ → List (List ℕ) → Option Line
unit_line_in moment word node rest =
    if bytes_eq word (codes "down") then option_map (Down moment node) (one cause_named rest)
    else if bytes_eq word (codes "over") then bare (Over moment node) rest else None

abbrev pub node_line_in : List ℕ → List ℕ → List ℕ → List ℕ → List (List ℕ) → Option Line
node_line_in moment bus word node rest = do
  t ← number_in 0 word64 moment
  n ← number_in 0 word32 node
  if bytes_eq bus (codes "-") then unit_line_in t word n rest else bus_line_in t bus word n rest

abbrev pub status_of : ℕ → Option ℕ
status_of n = if n == 0 || n == 8 then Some n else None

abbrev pub end_in : List ℕ → List ℕ → List ℕ → Option Line
end_in word status events =
    if bytes_eq word (codes "end")
    then option_and_then (λ s. option_map (End s) (number_in 0 word64 events)) (option_and_then status_of (number_in 0 8 status))
    else None

abbrev pub line_in : List (List ℕ) → Option Line
line_in [] = None
line_in (a ∷ []) = None
line_in (a ∷ b ∷ []) = None
line_in (a ∷ b ∷ c ∷ []) = end_in a b c
line_in (a ∷ b ∷ c ∷ d ∷ rest) = node_line_in a b c d rest

abbrev pub ended : List ℕ × List ℕ → Option (List ℕ)
ended p = elim p.1 [ [] ↦ Some p.0 | b ∷ bs ↦ None ]

-- The line that this text spells; None where it spells none.
unfoldable pub line_of_text : List ℕ → Option Line
line_of_text text = do
  p ← cut 10 text
  line ← ended p
  line_in (parts 32 line)
