-- Which nodes receive a frame, read off the lines before its end.
use Rattle.std.specs.Prelude.{◌≡◌, ℕ, ◌+◌, ◌*◌, unwrap_or, ◌&&◌, true, not, All, List, [], ◌∷◌, ◌++◌, filter, map, Option, Some, None}
use Rattle.frame_specs.specs.Frame.{Frame}
use Rattle.frame_specs.specs.Wire.{duration, time_of}
use Rattle.bus_specs.specs.Bus.{Setup, among, is}
use Rattle.bus_specs.specs.Waits.{is_meant}
use Rattle.std.specs.List.{list_any}
use Rattle.log_specs.specs.Line.{Line, On, Down, Over, End, Told, Done, Fail, Hurt}
use Rattle.log_laws.specs.Mirror.{Mirror, OnWire, mirror, takes_part, seen_is}

abbrev pub hurt_node : ℕ → Told → Option ℕ
hurt_node node (Hurt kind) = Some node
hurt_node node other = None

abbrev pub hurt_by : Line → Option ℕ
hurt_by (On moment bus node told) = hurt_node node told
hurt_by (Down moment node cause) = None
hurt_by (Over moment node) = None
hurt_by (End status events) = None

-- the node of the hurt line that comes next, if one does
abbrev pub hurt_next : List Line → Option ℕ
hurt_next [] = None
hurt_next (line ∷ rest) = hurt_by line

-- the nodes that listened at the start, are awake, and weren't hurt; by node
abbrev pub receivers : Mirror → OnWire → Option ℕ → List ℕ
receivers m w hurt = map (λ x. x.node) (filter (λ x. among w.listeners x.node && x.awake && not (is x.node hurt)) m.nodes)

-- this frame of this node is on the wire
pub record IsRunning (m : Mirror) (node : ℕ) (f : Frame) : Type 0 where
  pub wire : OnWire
  pub running : m.running ≡ Some wire
  pub sender : wire.sender ≡ node
  pub frame : wire.frame ≡ f

-- the ticks that a frame is on the wire, and those from its start up to the end of the error frame that follows this wire bit
abbrev pub data_bit : Setup → ℕ
data_bit s = unwrap_or s.data_bit_time s.nominal

abbrev pub time_on_wire : Setup → Frame → ℕ
time_on_wire s f = duration f s.nominal (data_bit s)

abbrev pub time_to_error : Setup → Frame → ℕ → ℕ
time_to_error s f bit = time_of f bit s.nominal (data_bit s) + 20 * s.nominal

pub record IsDelivery (s : Setup) (m : Mirror) (t node : ℕ) (f : Frame) (ns : List ℕ) (rest : List Line) : Type 0 where
  pub runs : IsRunning m node f
  pub ends : t ≡ runs.wire.since + time_on_wire s f
  pub waits : list_any (is_meant node f) m.waits ≡ true
  pub receivers : ns ≡ receivers m runs.wire (hurt_next rest)
  pub on : All (λ n. seen_is takes_part m.nodes n ≡ true) ns

-- Each frame that is delivered is the one on the wire, ends in its time, and waits. It reaches the nodes that listened at its start, are awake and
-- weren't hurt, and none that is asleep or off.
abbrev pub DeliveriesReachListeners : Setup → List ℕ → List Line → Type 0
DeliveriesReachListeners s nodes lines = (before rest : List Line) (t bus node : ℕ) (f : Frame) (ns : List ℕ)
    → lines ≡ before ++ On t bus node (Done f ns) ∷ rest → IsDelivery s (mirror s nodes before) t node f ns rest

pub record IsFailure (s : Setup) (m : Mirror) (t node : ℕ) (f : Frame) : Type 0 where
  pub runs : IsRunning m node f
  pub bit : ℕ
  pub ends : t ≡ runs.wire.since + time_to_error s f bit

-- Each frame that fails is the one on the wire, and an error frame follows one of its bits.
abbrev pub FailuresAreOfTheFrame : Setup → List ℕ → List Line → Type 0
FailuresAreOfTheFrame s nodes lines = (before rest : List Line) (t bus node kind by : ℕ) (f : Frame)
    → lines ≡ before ++ On t bus node (Fail f kind by) ∷ rest → IsFailure s (mirror s nodes before) t node f
