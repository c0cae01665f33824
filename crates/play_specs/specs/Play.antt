-- What a play file says: one bus, the errors on its wire, and what its nodes do at which moment.
use Rattle.std.specs.Prelude.{◌≡◌, ◌≤◌, ◌<◌, ℕ, ◌-◌, ◌^◌, ◌/◌, ◌%◌, All, IfSome, IsSome, true, List, [], ◌∷◌, length, map, option_map, Option, ⊤, if◌then◌else◌}
use Rattle.std.specs.List.{range_with_len}
use Rattle.frame_specs.specs.Frame.{Frame, is_fd, is_well_formed}
use Rattle.operation_specs.specs.Operation as op
use Rattle.operation_specs.specs.Reading.{Item, Op}
use Rattle.log_specs.specs.Line.{Line}
use Rattle.bus_specs.specs.Bus.{ErrorEntry, Setup}
use Rattle.play_specs.specs.Scenario.{Action, Scenario, scenario_lines, scenario_log, scenario_status}

-- what a node does: it sends a frame, wakes up or goes to sleep, or keeps or discards frames that lose arbitration
pub data Verb : Type 0 where
  Send : (frame : Frame) → Verb
  Wake Sleep Keep Discard : Verb

pub record PlayAction : Type 0 where
  pub moment : ℕ
  pub node : ℕ
  pub verb : Verb

pub record Play : Type 0 where
  -- ticks a second
  pub resolution : ℕ
  -- bits a second: nominal, and of the data of FD frames
  pub rate : ℕ
  pub fd_rate : Option ℕ
  -- how many; they are numbered from 0 on
  pub nodes : ℕ
  -- the last moment at which something happens
  pub stop : ℕ
  pub errors : List ErrorEntry
  pub actions : List PlayAction

-- ---- which plays there are

abbrev pub Between : ℕ → ℕ → ℕ → Type 0
Between low high n = (low ≤ n) × (n ≤ high)

-- a rate of 32 bits at which a bit lasts a whole number of ticks
pub record IsRate (resolution rate : ℕ) : Type 0 where
  pub in_range : Between 1 (2 ^ 32 - 1) rate
  pub divides : resolution % rate ≡ 0

pub record IsEntry (nodes : ℕ) (e : ErrorEntry) : Type 0 where
  pub first : Between 1 (2 ^ 32) e.first
  pub count : Between 1 (2 ^ 32) e.count
  pub kind : Between 1 4 e.kind
  pub by : IfSome e.by (λ node. node < nodes)
  pub bit : e.bit ≤ 1023

-- a frame that can stand on the bus; an FD frame needs a data rate
pub record IsSendable (fd_rate : Option ℕ) (f : Frame) : Type 0 where
  pub well_formed : is_well_formed f ≡ true
  pub bytes : All (λ b. b < 256) f.bytes
  pub rate : is_fd f.kind ≡ true → IsSome fd_rate

abbrev pub IsVerb : Option ℕ → Verb → Type 0
IsVerb fd_rate (Send f) = IsSendable fd_rate f
IsVerb fd_rate Wake = ⊤
IsVerb fd_rate Sleep = ⊤
IsVerb fd_rate Keep = ⊤
IsVerb fd_rate Discard = ⊤

pub record IsAction (nodes : ℕ) (fd_rate : Option ℕ) (a : PlayAction) : Type 0 where
  pub moment : a.moment ≤ 2 ^ 62
  pub node : a.node < nodes
  pub verb : IsVerb fd_rate a.verb

-- no moment is before the one in front of it, the first not before this one
abbrev pub Rises : ℕ → List PlayAction → Type 0
Rises last [] = ⊤
Rises last (a ∷ as') = (last ≤ a.moment) × Rises a.moment as'

pub record IsPlay (p : Play) : Type 0 where
  pub resolution : Between 1 (10 ^ 12) p.resolution
  pub rate : IsRate p.resolution p.rate
  pub fd_rate : IfSome p.fd_rate (IsRate p.resolution)
  pub nodes : Between 1 32 p.nodes
  pub stop : p.stop ≤ 2 ^ 62
  pub few_errors : length p.errors ≤ 1024
  pub errors : All (IsEntry p.nodes) p.errors
  pub actions : All (IsAction p.nodes p.fd_rate) p.actions
  pub rises : Rises 0 p.actions

-- ---- what becomes of a play

abbrev pub item_of : Verb → Item
item_of (Send f) = Op (if is_fd f.kind then op.FdTransmit f else op.Transmit f)
item_of Wake = Op op.Wakeup
item_of Sleep = Op op.Sleep
item_of Keep = Op (op.Configuration op.Keep)
item_of Discard = Op (op.Configuration op.Discard)

abbrev pub action_of : PlayAction → Action
action_of a = record { moment = a.moment; node = a.node; item = item_of a.verb }

-- the ticks of a bit at a rate
abbrev pub bit_time : ℕ → ℕ → ℕ
bit_time resolution rate = resolution / rate

abbrev pub setup_of : Play → Setup
setup_of p = record {
  number = 0;
  rate = p.rate;
  fd_rate = p.fd_rate;
  nominal = bit_time p.resolution p.rate;
  data_bit_time = option_map (bit_time p.resolution) p.fd_rate;
  errors = p.errors;
}

abbrev pub nodes_of : Play → List ℕ
nodes_of p = range_with_len 0 p.nodes

abbrev pub scenario_of : Play → Scenario
scenario_of p = record { setup = setup_of p; nodes = nodes_of p; stop = p.stop; actions = map action_of p.actions }

-- the log of a play and its status, with a budget of events
abbrev pub play_lines : ℕ → Play → List Line
play_lines budget p = scenario_lines budget (scenario_of p)

abbrev pub play_log : ℕ → Play → List ℕ
play_log budget p = scenario_log budget (scenario_of p)

abbrev pub play_status : ℕ → Play → ℕ
play_status budget p = scenario_status budget (scenario_of p)
