-- What a reader knows of one bus from its log alone: a fold over the lines.
use Rattle.std.specs.Prelude.{ℕ, ◌+◌, ◌*◌, ◌==◌, ◌&&◌, Bool, true, false, not, List, [], filter, fold, map, Option, Some, None, if◌then◌else◌}
use Rattle.std.specs.List.{list_any}
use Rattle.frame_specs.specs.Frame.{Frame}
use Rattle.operation_specs.specs.Operation.{Declared, Active, Off}
use Rattle.bus_specs.specs.Bus.{Setup}
use Rattle.bus_specs.specs.Finish.{same_level}
use Rattle.bus_specs.specs.Waits.{Waiting, heard, without_node}
use Rattle.log_specs.specs.Line.{Line, On, Down, Over, End, Told, Start, Done, Fail, Sleep, Wake, ToldWake, Keep, Discard, State, Back}

-- a node: whether it is awake, whether it discards what loses arbitration, its fault confinement state
pub record Seen : Type 0 where
  pub node : ℕ
  pub awake : Bool
  pub discards : Bool
  pub level : Declared

-- the frame on the wire, when it started, and the nodes that listened then
pub record OnWire : Type 0 where
  pub sender : ℕ
  pub frame : Frame
  pub since : ℕ
  pub listeners : List ℕ

pub record Mirror : Type 0 where
  -- by node
  pub nodes : List Seen
  -- in the order of the requests
  pub waits : List Waiting
  -- from when on a frame may start
  pub idle : ℕ
  pub last_sender : Option ℕ
  pub running : Option OnWire

abbrev pub new_seen : ℕ → Seen
new_seen node = record { node = node; awake = true; discards = false; level = Active }

abbrev pub new_mirror : List ℕ → Mirror
new_mirror nodes = record { nodes = map new_seen nodes; waits = []; idle = 0; last_sender = None; running = None }

abbrev pub is_off : Seen → Bool
is_off x = same_level x.level Off

-- a node that can send and receive
abbrev pub takes_part : Seen → Bool
takes_part x = x.awake && not (is_off x)

-- whether the test holds of the node
abbrev pub seen_is : (Seen → Bool) → List Seen → ℕ → Bool
seen_is test xs node = list_any (λ x. (x.node == node) && test x) xs

-- the other nodes that are awake and not off
abbrev pub listening : List Seen → ℕ → List ℕ
listening xs sender = map (λ x. x.node) (filter (λ x. takes_part x && not (x.node == sender)) xs)

-- this node changed, the others as they are
abbrev pub with_node : ℕ → (Seen → Seen) → List Seen → List Seen
with_node node change xs = map (λ x. if x.node == node then change x else x) xs

abbrev pub nodes_after : ℕ → Told → List Seen → List Seen
nodes_after node Sleep xs = with_node node (λ x. record x { awake = false }) xs
nodes_after node Wake xs = with_node node (λ x. record x { awake = true }) xs
nodes_after node ToldWake xs = with_node node (λ x. record x { awake = true }) xs
nodes_after node Keep xs = with_node node (λ x. record x { discards = false }) xs
nodes_after node Discard xs = with_node node (λ x. record x { discards = true }) xs
nodes_after node (State level) xs = with_node node (λ x. record x { level = level }) xs
nodes_after node Back xs = with_node node (λ x. record x { level = Active }) xs
nodes_after node other xs = xs

-- an intermission of three bits follows the end of a frame
abbrev pub idle_after : Setup → ℕ → Told → ℕ → ℕ
idle_after s moment (Done f receivers) idle = moment + 3 * s.nominal
idle_after s moment (Fail f kind by) idle = moment + 3 * s.nominal
idle_after s moment other idle = idle

abbrev pub last_sender_after : ℕ → Told → Option ℕ → Option ℕ
last_sender_after node (Done f receivers) last = Some node
last_sender_after node (Fail f kind by) last = Some node
last_sender_after node other last = last

abbrev pub running_after : List Seen → ℕ → ℕ → Told → Option OnWire → Option OnWire
running_after xs moment node (Start f) running = Some (record { sender = node; frame = f; since = moment; listeners = listening xs node })
running_after xs moment node (Done f receivers) running = None
running_after xs moment node (Fail f kind by) running = None
running_after xs moment node other running = running

abbrev pub mirror_told : Setup → Mirror → ℕ → ℕ → Told → Mirror
mirror_told s m moment node told = record {
  nodes = nodes_after node told m.nodes;
  waits = heard node m.waits told;
  idle = idle_after s moment told m.idle;
  last_sender = last_sender_after node told m.last_sender;
  running = running_after m.nodes moment node told m.running;
}

-- a node that is down or over takes part no longer, and nothing of it waits
abbrev pub mirror_without : Mirror → ℕ → Mirror
mirror_without m node = record m { nodes = filter (λ x. not (x.node == node)) m.nodes; waits = without_node node m.waits }

abbrev pub mirror_after : Setup → Mirror → Line → Mirror
mirror_after s m (On moment bus node told) = if bus == s.number then mirror_told s m moment node told else m
mirror_after s m (Down moment node cause) = mirror_without m node
mirror_after s m (Over moment node) = mirror_without m node
mirror_after s m (End status events) = m

abbrev pub mirror : Setup → List ℕ → List Line → Mirror
mirror s nodes lines = fold (mirror_after s) (new_mirror nodes) lines
