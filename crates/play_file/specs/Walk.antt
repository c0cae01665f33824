-- Reading a play file: how the reader goes through it, line by line. No public clause cites this module.
use Rattle.std.specs.Prelude.{ℕ, ◌+◌, ◌-◌, ◌^◌, ◌%◌, ◌==◌, ◌&&◌, ◌||◌, Bool, true, false, not, List, [], ◌∷◌, ◌++◌, length, Option, Some, None, is_some, option_map, option_and_then, Result, Ok, Err, if◌then◌else◌, nat_lt, codes, bytes_eq}
use Rattle.frame_specs.specs.Frame.{Frame, is_fd}
use Rattle.frame_specs.specs.FrameReading.{frame_of}
use Rattle.bus_specs.specs.Bus.{ErrorEntry}
use Rattle.plain_text.specs.Decimal.{number_in}
use Rattle.plain_text.specs.Parts.{parts, words_of}
use Rattle.play_specs.specs.Play.{Play, PlayAction, Verb, Send, Wake, Sleep, Keep, Discard}

infixl 10 ◌>>=◌
abbrev pub ◌>>=◌ : {A B : Type 0} → Option A → (A → Option B) → Option B
o >>= f = option_and_then f o

-- ---- the header

-- 0 for none
abbrev pub rate_or_none : ℕ → Option ℕ
rate_or_none rate = if rate == 0 then None else Some rate

abbrev pub fd_divides : ℕ → ℕ → Bool
fd_divides resolution rate = (rate == 0) || ((resolution % rate) == 0)

abbrev pub if_divides : (resolution rate fd_rate nodes stop : ℕ) → Option Play
if_divides resolution rate fd_rate nodes stop =
    if ((resolution % rate) == 0) && fd_divides resolution fd_rate
    then Some (record { resolution = resolution; rate = rate; fd_rate = rate_or_none fd_rate; nodes = nodes; stop = stop; errors = []; actions = [] })
    else None

unfoldable pub header_in : (resolution rate fd_rate nodes stop : List ℕ) → Option Play
header_in resolution rate fd_rate nodes stop = do
  resolution ← number_in 1 (10 ^ 12) resolution
  rate ← number_in 1 (2 ^ 32 - 1) rate
  fd_rate ← number_in 0 (2 ^ 32 - 1) fd_rate
  nodes ← number_in 1 32 nodes
  stop ← number_in 0 (2 ^ 62) stop
  if_divides resolution rate fd_rate nodes stop

-- a play with nothing behind its header
abbrev pub header_of : List (List ℕ) → Option Play
header_of (word ∷ resolution ∷ rate ∷ fd_rate ∷ nodes ∷ stop ∷ []) = if bytes_eq word (codes "play") then header_in resolution rate fd_rate nodes stop else None
header_of words = None

-- ---- one more line

abbrev pub with_entry : Play → ErrorEntry → Play
with_entry p e = record p { errors = p.errors ++ e ∷ [] }

abbrev pub with_action : Play → PlayAction → Play
with_action p a = record p { actions = p.actions ++ a ∷ [] }

-- error lines stand before action lines, 1,024 at most
abbrev pub no_action : List PlayAction → Bool
no_action [] = true
no_action (a ∷ as') = false

abbrev pub takes_entry : Play → Bool
takes_entry p = no_action p.actions && nat_lt (length p.errors) 1024

abbrev pub by_of : ℕ → List ℕ → Option (Option ℕ)
by_of nodes text = if bytes_eq text (codes "sender") then Some None else option_map Some (number_in 0 (nodes - 1) text)

unfoldable pub entry_in : ℕ → (first count kind by bit : List ℕ) → Option ErrorEntry
entry_in nodes first count kind by bit = do
  first ← number_in 1 (2 ^ 32) first
  count ← number_in 1 (2 ^ 32) count
  kind ← number_in 1 4 kind
  by ← by_of nodes by
  bit ← number_in 0 1023 bit
  Some (record { first = first; count = count; kind = kind; by = by; bit = bit })

-- the moment of the last action
abbrev pub last_of : ℕ → List PlayAction → ℕ
last_of last [] = last
last_of last (a ∷ as') = last_of a.moment as'

abbrev pub bare_verb : List ℕ → Option Verb
bare_verb word =
    if bytes_eq word (codes "wake") then Some Wake
    else if bytes_eq word (codes "sleep") then Some Sleep
    else if bytes_eq word (codes "keep") then Some Keep
    else if bytes_eq word (codes "discard") then Some Discard
    else None

-- an FD frame needs a data rate
abbrev pub sendable : Option ℕ → Frame → Option Verb
sendable fd_rate f = if is_fd f.kind && not (is_some fd_rate) then None else Some (Send f)

abbrev pub sent : Option ℕ → List ℕ → List ℕ → Option Verb
sent fd_rate word text = if bytes_eq word (codes "send") then frame_of text >>= sendable fd_rate else None

unfoldable pub action_in : (last nodes : ℕ) (moment node : List ℕ) → Option Verb → Option PlayAction
action_in last nodes moment node verb = do
  moment ← number_in last (2 ^ 62) moment
  node ← number_in 0 (nodes - 1) node
  verb ← verb
  Some (record { moment = moment; node = node; verb = verb })

abbrev pub then_action : Play → (moment node : List ℕ) → Option Verb → Option Play
then_action p moment node verb = option_map (with_action p) (action_in (last_of 0 p.actions) p.nodes moment node verb)

abbrev pub then_entry : Play → (first count kind by bit : List ℕ) → Option Play
then_entry p first count kind by bit = if takes_entry p then option_map (with_entry p) (entry_in p.nodes first count kind by bit) else None

abbrev pub with_words : Play → List (List ℕ) → Option Play
with_words p (word ∷ first ∷ count ∷ kind ∷ by ∷ bit ∷ []) =
    if bytes_eq word (codes "error") then then_entry p first count kind by bit else None
with_words p (moment ∷ node ∷ verb ∷ []) = then_action p moment node (bare_verb verb)
with_words p (moment ∷ node ∷ verb ∷ text ∷ []) = then_action p moment node (sent p.fd_rate verb text)
with_words p words = None

abbrev pub step : Play → List ℕ → Option Play
step p line = with_words p (words_of line)

-- the play that these lines write
abbrev pub steps : List (List ℕ) → Play → Option Play
steps [] p = Some p
steps (line ∷ lines) p = option_and_then (steps lines) (step p line)

abbrev pub play_of_lines : List (List ℕ) → Option Play
play_of_lines [] = None
play_of_lines (line ∷ lines) = option_and_then (steps lines) (header_of (words_of line))

-- ---- a file

-- a line that gives no play is bad; behind another one reading goes on
abbrev pub taken : ℕ → (Play → Result Play ℕ) → Option Play → Result Play ℕ
taken line rest None = Err line
taken line rest (Some p) = rest p

-- The lines from this number on. The last part stands behind the last line feed: it is empty, or a line that isn't ended.
abbrev pub walk_lines : ℕ → Play → List (List ℕ) → Result Play ℕ
walk_lines line p [] = Ok p
walk_lines line p ([] ∷ []) = Ok p
walk_lines line p ((b ∷ bs) ∷ []) = Err line
walk_lines line p (text ∷ next ∷ lines) = taken line (λ q. walk_lines (line + 1) q (next ∷ lines)) (step p text)

abbrev pub walk_parts : List (List ℕ) → Result Play ℕ
walk_parts [] = Err 1
walk_parts (line ∷ []) = Err 1
walk_parts (line ∷ next ∷ lines) = taken 1 (λ p. walk_lines 2 p (next ∷ lines)) (header_of (words_of line))

-- the play of a file, or its first bad line
unfoldable pub walk : List ℕ → Result Play ℕ
walk bytes = walk_parts (parts 10 bytes)
