-- The start of a frame: one wins, the others lose; it will be delivered, or an error frame ends it.
use Rattle.std.specs.Prelude.{ℕ, ◌+◌, ◌-◌, ◌/◌, ◌==◌, ◌&&◌, ◌||◌, Bool, not, min, List, [], ◌∷◌, filter, find, map, unwrap_or, option_map, Option, Some, None, if◌then◌else◌, nat_le, nat_lt}
use Rattle.std.specs.List.{list_any}
use Rattle.frame_specs.specs.Frame.{Frame}
use Rattle.frame_specs.specs.Wire.{duration, time_of, wire_bits, ack_place}
use Rattle.bus_specs.specs.Bus.{ErrorEntry, Request, LostNotice, Member, Fault, Hurt, Running, Bus, bits, data_bit, passive, among, takes_part, offers, winner, member_is}
use Rattle.log_specs.specs.Line as log
use Rattle.log_specs.specs.Line.{Line, On, Told}

-- spans of 11 nominal bits between the idle moment and now
abbrev pub spans : Bus → ℕ → ℕ
spans b now = (now - b.idle) / bits b 11

-- the offers that lose, and those of them that are discarded
abbrev pub losers : Bus → ℕ → ℕ → List Request
losers b now winner = filter (λ r. not (r.node == winner)) (offers b now)

abbrev pub discards : Bus → Request → Bool
discards b r = member_is (λ m. m.discards) b.members r.node

abbrev pub discarded : Bus → ℕ → ℕ → List Request
discarded b now winner = filter (discards b) (losers b now winner)

abbrev pub is_same : Request → Request → Bool
is_same q r = (q.node == r.node) && (q.number == r.number)

abbrev pub is_gone : List Request → Request → Bool
is_gone rs q = list_any (is_same q) rs

-- the identifier of the discarded request of the node
abbrev pub lost_id : List Request → ℕ → Option ℕ
lost_id discarded node = option_map (λ r. r.frame.id) (find (λ r. r.node == node) discarded)

-- a notice of it, else what stands there
abbrev pub lost_by : ℕ → Option LostNotice → Option ℕ → Option LostNotice
lost_by due stands None = stands
lost_by due stands (Some id) = Some (record { due = due; id = id })

abbrev pub member_after_start : Bus → ℕ → List Request → Member → Member
member_after_start b now rs m = record m {
  occurrences = option_map (λ n. n + spans b now) m.occurrences;
  lost = lost_by (now + bits b 1) m.lost (lost_id rs m.node);
}

-- the other nodes that are live, awake and not off
abbrev pub listeners : Bus → ℕ → List ℕ
listeners b sender = map (λ m. m.node) (filter (λ m. takes_part m && not (m.node == sender)) b.members)

-- the node of an entry: the sender where it names none
abbrev pub node_of_entry : ErrorEntry → ℕ → ℕ
node_of_entry e sender = unwrap_or e.by sender

-- it covers the attempt, and its node is the sender or a listener
abbrev pub applies : ℕ → ℕ → List ℕ → ErrorEntry → Bool
applies attempt sender heard e = nat_le e.first attempt && nat_lt attempt (e.first + e.count)
    && ((node_of_entry e sender == sender) || among heard (node_of_entry e sender))

abbrev pub entry_of_attempt : Bus → ℕ → List ℕ → Option ErrorEntry
entry_of_attempt b sender heard = find (applies (b.attempts + 1) sender heard) b.setup.errors

-- how an attempt ends
pub record Course : Type 0 where
  pub end : ℕ
  pub fault : Option Fault
  pub hurt : Option Hurt
  pub listeners : List ℕ

-- an error in this wire bit: an error frame of 20 bits follows
abbrev pub course_to_error : Bus → ℕ → Frame → ℕ → Fault → Option Hurt → List ℕ → Course
course_to_error b now f bit fault hurt heard = record {
  end = now + time_of f bit b.setup.nominal (data_bit b) + bits b 20;
  fault = Some fault;
  hurt = hurt;
  listeners = heard;
}

-- with no listener nobody acknowledges, else it will be delivered
abbrev pub course_of_frame : Bus → ℕ → Request → Option Hurt → List ℕ → Course
course_of_frame b now w hurt [] = course_to_error b now w.frame (ack_place w.frame) (record { kind = 5; by = w.node }) hurt []
course_of_frame b now w hurt (n ∷ ns) = record {
  end = now + duration w.frame b.setup.nominal (data_bit b);
  fault = None;
  hurt = hurt;
  listeners = n ∷ ns;
}

-- a passive listener alone is hurt, and is no listener; else the attempt fails
abbrev pub only_hurts : Bus → ℕ → ℕ → Bool
only_hurts b sender node = not (node == sender) && member_is passive b.members node

abbrev pub course_by_entry : Bus → ℕ → Request → List ℕ → ErrorEntry → ℕ → Course
course_by_entry b now w heard e node = if only_hurts b w.node node
    then course_of_frame b now w (Some (record { node = node; kind = e.kind })) (filter (λ n. not (n == node)) heard)
    else course_to_error b now w.frame (min e.bit (wire_bits w.frame - 1)) (record { kind = e.kind; by = node }) None heard

abbrev pub course_with : Bus → ℕ → Request → List ℕ → Option ErrorEntry → Course
course_with b now w heard None = course_of_frame b now w None heard
course_with b now w heard (Some e) = course_by_entry b now w heard e (node_of_entry e w.node)

unfoldable pub course : Bus → ℕ → Request → Course
course b now w = let heard = listeners b w.node in course_with b now w heard (entry_of_attempt b w.node heard)

abbrev pub running_frame : Request → Course → Running
running_frame w c = record {
  sender = w.node;
  number = w.number;
  frame = w.frame;
  end = c.end;
  fault = c.fault;
  hurt = c.hurt;
  listeners = c.listeners;
}

-- the start of this winner, whose request stays
abbrev pub bus_after_start : Bus → ℕ → Request → Bus
bus_after_start b now w = let rs = discarded b now w.node in record b {
  members = map (member_after_start b now rs) b.members;
  requests = filter (λ q. not (is_gone rs q)) b.requests;
  attempts = b.attempts + 1;
  running = Some (running_frame w (course b now w));
}

abbrev pub loser_told : Bus → Request → Told
loser_told b r = if discards b r then log.LostGone r.frame else log.LostKept r.frame

abbrev pub start_lines : Bus → ℕ → Request → List Line
start_lines b now w = On now b.setup.number w.node (log.Start w.frame)
    ∷ map (λ r. On now b.setup.number r.node (loser_told b r)) (losers b now w.node)

abbrev pub start_with : Bus → ℕ → Option Request → Bus × List Line
start_with b now None = (b, [])
start_with b now (Some w) = (bus_after_start b now w, start_lines b now w)

-- the bus behind a start at this moment, and the lines of the start
unfoldable pub start : Bus → ℕ → Bus × List Line
start b now = start_with b now (winner b now)
