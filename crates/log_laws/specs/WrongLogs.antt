-- Logs that no bus has, each wrong in one thing.
use Rattle.std.specs.Prelude.{◌≡◌, refl, ℕ, false, List, [], ◌∷◌, ◌++◌, None}
use Rattle.frame_specs.specs.Frame.{Frame, Data}
use Rattle.frame_specs.specs.Wire.{duration, stuffed, stuff}
use Rattle.operation_specs.specs.Operation.{Off, Transmit}
use Rattle.operation_specs.specs.Reading.{Op}
use Rattle.bus_specs.specs.Bus.{Setup}
use Rattle.play_specs.specs.Scenario.{Scenario}
use Rattle.log_specs.specs.Line.{Line, On, End, Told, Req, Full, Start, LostKept, LostGone, Discard, Sleep, State, Done, Fail, Hurt}

-- 1,000 ticks a bit
abbrev pub plain : Setup
plain = record { number = 1; rate = 500000; fd_rate = None; nominal = 1000; data_bit_time = None; errors = [] }

abbrev pub frame : ℕ → ℕ → Frame
frame id byte = record { id = id; ext = false; kind = Data; bytes = byte ∷ [] }

abbrev pub on : ℕ → ℕ → Told → Line
on moment node told = On moment 1 node told

abbrev pub nodes : List ℕ
nodes = 0 ∷ 1 ∷ 2 ∷ []

-- such a frame takes 56 bits
frame_time : duration (frame 5 1) 1000 1000 ≡ 56000
unfolding duration stuffed stuff
frame_time = refl

-- of two requests that arbitrate alike the node starts the later one
abbrev pub two_alike : List Line
two_alike = on 0 0 (Req (frame 5 1)) ∷ on 0 0 (Req (frame 5 2)) ∷ []

abbrev pub latest_of_equals : List Line
latest_of_equals = two_alike ++ on 0 0 (Start (frame 5 2)) ∷ []

-- the frame that starts is beaten by one that waits
abbrev pub two_wait : List Line
two_wait = on 0 0 (Req (frame 5 1)) ∷ on 0 1 (Req (frame 3 2)) ∷ []

abbrev pub beaten_winner : List Line
beaten_winner = two_wait ++ on 0 0 (Start (frame 5 1)) ∷ []

-- of two nodes that offer frames alike the higher one starts
abbrev pub two_nodes : List Line
two_nodes = on 0 0 (Req (frame 5 1)) ∷ on 0 1 (Req (frame 5 2)) ∷ []

abbrev pub higher_node : List Line
higher_node = two_nodes ++ on 0 1 (Start (frame 5 2)) ∷ []

-- a node starts while it sleeps
abbrev pub asleep : List Line
asleep = on 0 0 (Req (frame 5 1)) ∷ on 0 0 Sleep ∷ []

abbrev pub sleeping_sender : List Line
sleeping_sender = asleep ++ on 0 0 (Start (frame 5 1)) ∷ []

-- a frame starts two bits behind the end of another
abbrev pub ended : List Line
ended = on 0 0 (Req (frame 5 1)) ∷ on 0 0 (Start (frame 5 1)) ∷ on 56000 0 (Done (frame 5 1) (1 ∷ 2 ∷ [])) ∷ on 56000 1 (Req (frame 6 1)) ∷ []

abbrev pub early_start : List Line
early_start = ended ++ on 58000 1 (Start (frame 6 1)) ∷ []

-- a node that fell asleep receives
abbrev pub one_sleeps : List Line
one_sleeps = on 0 0 (Req (frame 5 1)) ∷ on 0 0 (Start (frame 5 1)) ∷ on 30000 1 Sleep ∷ []

abbrev pub sleeping_receiver : List Line
sleeping_receiver = one_sleeps ++ on 56000 0 (Done (frame 5 1) (1 ∷ 2 ∷ [])) ∷ []

-- a node that was hurt receives
abbrev pub under_way : List Line
under_way = on 0 0 (Req (frame 5 1)) ∷ on 0 0 (Start (frame 5 1)) ∷ []

abbrev pub hurt_receiver : List Line
hurt_receiver = under_way ++ on 56000 0 (Done (frame 5 1) (1 ∷ 2 ∷ [])) ∷ on 56000 1 (Hurt 2) ∷ []

-- a listener that nothing ails doesn't receive
abbrev pub missed_receiver : List Line
missed_receiver = under_way ++ on 56000 0 (Done (frame 5 1) (2 ∷ [])) ∷ []

-- a node with a frame that waits isn't told that it lost
abbrev pub silent_loser : List Line
silent_loser = two_wait ++ on 0 1 (Start (frame 3 2)) ∷ on 56000 1 (Done (frame 3 2) (0 ∷ 2 ∷ [])) ∷ []

-- a node that discards what loses has its frame kept
abbrev pub one_discards : List Line
one_discards = on 0 0 Discard ∷ two_wait

abbrev pub kept_for_discard : List Line
kept_for_discard = one_discards ++ on 0 1 (Start (frame 3 2)) ∷ on 0 0 (LostKept (frame 5 1)) ∷ []

-- a loser that had nothing to lose, at no start
abbrev pub loser_of_nothing : List Line
loser_of_nothing = on 0 0 Discard ∷ on 0 0 (LostKept (frame 5 1)) ∷ []

-- one frame is delivered twice
abbrev pub delivered_once : List Line
delivered_once = under_way ++ on 56000 0 (Done (frame 5 1) (1 ∷ 2 ∷ [])) ∷ []

abbrev pub delivered_twice : List Line
delivered_twice = delivered_once ++ on 70000 0 (Done (frame 5 1) (1 ∷ 2 ∷ [])) ∷ []

-- a request of a node that is off is accepted
abbrev pub node_0_off : List Line
node_0_off = on 0 0 (State Off) ∷ []

abbrev pub accepted_off : List Line
accepted_off = node_0_off ++ on 0 0 (Req (frame 5 1)) ∷ []

-- a queue with one frame is full
abbrev pub one_waits : List Line
one_waits = on 0 0 (Req (frame 5 1)) ∷ []

abbrev pub full_too_soon : List Line
full_too_soon = one_waits ++ on 0 0 (Full (frame 6 1)) ∷ []

-- a frame ends a bit late
abbrev pub late_end : List Line
late_end = under_way ++ on 57000 0 (Done (frame 5 1) (1 ∷ 2 ∷ [])) ∷ []

-- a frame starts a bit late, with no line between
abbrev pub late_start : List Line
late_start = one_waits ++ on 1000 0 (Start (frame 5 1)) ∷ []

-- a line is earlier than the one before it
abbrev pub one_later : List Line
one_later = on 1000 0 (Req (frame 5 1)) ∷ []

abbrev pub falling_moment : List Line
falling_moment = one_later ++ on 0 1 (Req (frame 6 1)) ∷ []

-- a frame fails that isn't on the wire
abbrev pub failed_other : List Line
failed_other = under_way ++ on 20000 0 (Fail (frame 6 1) 1 0) ∷ []

-- a frame starts while one runs
abbrev pub running_with_one : List Line
running_with_one = under_way ++ on 10000 1 (Req (frame 6 1)) ∷ []

abbrev pub second_start : List Line
second_start = running_with_one ++ on 10000 1 (Start (frame 6 1)) ∷ []

-- a frame is discarded that nobody requested
abbrev pub discarded_nothing : List Line
discarded_nothing = under_way ++ on 0 1 (LostGone (frame 6 1)) ∷ []

-- nothing is asked, and the run stops at once
abbrev pub empty : Scenario
empty = record { setup = plain; nodes = nodes; stop = 0; actions = [] }

-- a line after the stop
abbrev pub after_stop : List Line
after_stop = on 1000 0 (Req (frame 5 1)) ∷ []

-- a log that ends as if nothing had happened and nothing were left
abbrev pub wrong_end : List Line
wrong_end = one_waits ++ End 0 0 ∷ []

-- a frame that could start is left
abbrev pub left_undone : List Line
left_undone = one_waits ++ End 0 1 ∷ []

-- a node sends a frame, and the log doesn't tell
abbrev pub one_asks : Scenario
one_asks = record { setup = plain; nodes = nodes; stop = 0; actions = record { moment = 0; node = 0; item = Op (Transmit (frame 5 1)) } ∷ [] }

abbrev pub unanswered : List Line
unanswered = End 0 0 ∷ []

-- a frame starts before the lines of its moment
abbrev pub start_first : List Line
start_first = one_waits ++ on 0 0 (Start (frame 5 1)) ∷ on 0 1 (Req (frame 6 1)) ∷ []
