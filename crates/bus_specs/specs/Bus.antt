-- The state of one bus, and what its nodes may send (ISO 11898-1, medium access control).
use Rattle.std.specs.Prelude.{ℕ, ◌+◌, ◌*◌, ◌==◌, ◌&&◌, Bool, true, false, not, List, [], filter, filter_map, map, unwrap_or, count_by, Option, Some, None, is_some, if◌then◌else◌, nat_le}
use Rattle.std.specs.List.{list_any}
use Rattle.frame_specs.specs.Frame.{Frame}
use Rattle.frame_specs.specs.Dominance.{beats}
use Rattle.bus_specs.specs.Counters.{Counters, is_off, is_passive}
use Rattle.run_specs.specs.Order.{foremost}

-- An entry of the error script: the attempts that it covers, the kind of error, the node that detects it (None: the sender), the bit.
pub record ErrorEntry : Type 0 where
  pub first : ℕ
  pub count : ℕ
  pub kind : ℕ
  pub by : Option ℕ
  pub bit : ℕ

-- The bit rates, of an FD bus also that of the data phase, and the ticks of a bit at each.
pub record Setup : Type 0 where
  pub number : ℕ
  pub rate : ℕ
  pub fd_rate : Option ℕ
  pub nominal : ℕ
  pub data_bit_time : Option ℕ
  pub errors : List ErrorEntry

-- a frame that waits to be sent
pub record Request : Type 0 where
  pub node : ℕ
  pub number : ℕ
  pub frame : Frame

-- what a node is told of a frame
pub data Mail : Type 0 where
  Received : Frame → Mail
  Confirm : (id : ℕ) → Mail
  BusError : (id kind : ℕ) (primary sender : Bool) → Mail

-- arbitration was lost
pub record LostNotice : Type 0 where
  pub due : ℕ
  pub id : ℕ

-- an operation was bad
pub record FormatNotice : Type 0 where
  pub due : ℕ
  pub bytes : List ℕ

-- A node of the bus. Occurrences of 11 recessive bits are counted while it is off.
pub record Member : Type 0 where
  pub node : ℕ
  pub live : Bool
  pub awake : Bool
  pub discards : Bool
  pub counters : Counters
  pub occurrences : Option ℕ
  pub lost : Option LostNotice
  pub format : Option FormatNotice
  pub wake : Option ℕ
  pub mail : Option Mail

-- why an attempt fails: the kind of error, and the node that detects it
pub record Fault : Type 0 where
  pub kind : ℕ
  pub by : ℕ

-- a passive listener with an error of its own
pub record Hurt : Type 0 where
  pub node : ℕ
  pub kind : ℕ

-- the frame on the wire; with no fault it will be delivered
pub record Running : Type 0 where
  pub sender : ℕ
  pub number : ℕ
  pub frame : Frame
  pub end : ℕ
  pub fault : Option Fault
  pub hurt : Option Hurt
  pub listeners : List ℕ

pub record Bus : Type 0 where
  pub setup : Setup
  -- by node
  pub members : List Member
  -- by number
  pub requests : List Request
  pub next : ℕ
  pub attempts : ℕ
  -- from when on a frame may start
  pub idle : ℕ
  pub last_sender : Option ℕ
  pub running : Option Running

abbrev pub new_member : ℕ → Member
new_member node = record {
  node = node;
  live = false;
  awake = true;
  discards = false;
  counters = record { tec = 0; rec = 0 };
  occurrences = None;
  lost = None;
  format = None;
  wake = None;
  mail = None;
}

-- a bus on which nothing has happened, and no node is live
abbrev pub new_bus : Setup → List ℕ → Bus
new_bus s nodes = record {
  setup = s;
  members = map new_member nodes;
  requests = [];
  next = 0;
  attempts = 0;
  idle = 0;
  last_sender = None;
  running = None;
}

-- so many nominal bits
abbrev pub bits : Bus → ℕ → ℕ
bits b n = n * b.setup.nominal

-- a data bit; on a bus with no FD no frame has one
abbrev pub data_bit : Bus → ℕ
data_bit b = unwrap_or b.setup.data_bit_time b.setup.nominal

abbrev pub has_fd : Setup → Bool
has_fd s = is_some s.fd_rate

abbrev pub off : Member → Bool
off m = is_off m.counters

abbrev pub passive : Member → Bool
passive m = is_passive m.counters

-- whether the node is a member of which the test holds
abbrev pub member_is : (Member → Bool) → List Member → ℕ → Bool
member_is test ms node = list_any (λ m. (m.node == node) && test m) ms

abbrev pub among : List ℕ → ℕ → Bool
among nodes node = list_any (λ n. n == node) nodes

-- this member changed, the others as they are
abbrev pub with_member : Bus → ℕ → (Member → Member) → Bus
with_member b node change = record b { members = map (λ m. if m.node == node then change m else m) b.members }

abbrev pub waiting : List Request → ℕ → ℕ
waiting rs node = count_by (λ r. r.node == node) rs

abbrev pub has_request : List Request → ℕ → Bool
has_request rs node = list_any (λ r. r.node == node) rs

-- what a node offers: its dominant request, the earliest of equals
abbrev pub offer : List Request → ℕ → Option Request
offer rs node = foremost (λ q r. beats q.frame r.frame) (filter (λ r. r.node == node) rs)

abbrev pub takes_part : Member → Bool
takes_part m = m.live && m.awake && not (off m)

abbrev pub wants : Bus → Member → Bool
wants b m = takes_part m && has_request b.requests m.node

abbrev pub is : ℕ → Option ℕ → Bool
is node None = false
is node (Some n) = n == node

-- suspend transmission: a passive node that was the last sender waits 8 bits longer
abbrev pub suspended : Bus → Member → Bool
suspended b m = passive m && is m.node b.last_sender

-- from when on a node may start
abbrev pub ready_moment : Bus → Member → ℕ
ready_moment b m = b.idle + (if suspended b m then bits b 8 else 0)

abbrev pub able : Bus → ℕ → Member → Bool
able b now m = wants b m && nat_le (ready_moment b m) now

-- what the able nodes offer, in the order of the nodes
abbrev pub offers : Bus → ℕ → List Request
offers b now = filter_map (λ m. offer b.requests m.node) (filter (able b now) b.members)

-- the dominant offer, that of the lowest node among equals
unfoldable pub winner : Bus → ℕ → Option Request
winner b now = foremost (λ q r. beats q.frame r.frame) (offers b now)
