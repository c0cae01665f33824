-- The plan of a network: its buses and its nodes. Which plans there are, how the network of a plan opens, and its units.
use Rattle.std.specs.Prelude.{◌≡◌, ◌≤◌, ◌<◌, ℕ, ◌+◌, ◌*◌, ◌-◌, ◌^◌, All, IfSome, true, List, [], ◌∷◌, ◌++◌, length, get_or, map, flat_map, Option, Some, None, ⊤, if◌then◌else◌}
use Rattle.fmi_states.specs.declared.phase.Phase.{Phase}
use Rattle.fmi_states.specs.declared.call.Call.{Call}
use Rattle.fmi_states.specs.declared.reply.Reply.{Reply}
use Rattle.unit_specs.specs.Description.{Description, Terminal}
use Rattle.session_specs.specs.Outcome.{SessionIn}
use Rattle.session_specs.specs.Session as session
use Rattle.bus_specs.specs.Bus.{ErrorEntry, Setup, new_bus, among}
use Rattle.world_specs.specs.Units.{Given, Units}
use Rattle.world_specs.specs.World.{AreDistinct, Node, World, New, opening}

-- a bus and its nodes
pub record BusPlan : Type 0 where
  pub setup : Setup
  pub members : List ℕ

-- a node: what is known of its unit, and the bus of each of its terminals
pub record NodePlan : Type 0 where
  pub description : Description
  pub buses : List ℕ

pub record Plan : Type 0 where
  -- ticks a second
  pub resolution : ℕ
  -- the last moment at which something happens
  pub stop : ℕ
  -- how many events happen at most
  pub events : ℕ
  -- how many instructions a call of a unit takes at most
  pub fuel : ℕ
  pub buses : List BusPlan
  pub nodes : List NodePlan

-- ---- which plans there are

abbrev pub Between : ℕ → ℕ → ℕ → Type 0
Between low high n = (low ≤ n) × (n ≤ high)

-- at a rate of 32 bits a bit lasts so many ticks
pub record IsBitTime (resolution rate ticks : ℕ) : Type 0 where
  pub in_range : Between 1 (2 ^ 32 - 1) rate
  pub exact : ticks * rate ≡ resolution

-- there is a data bit time exactly where there is a data rate
abbrev pub IsDataBitTime : ℕ → Option ℕ → Option ℕ → Type 0
IsDataBitTime resolution None None = ⊤
IsDataBitTime resolution (Some rate) (Some ticks) = IsBitTime resolution rate ticks
IsDataBitTime resolution None (Some ticks) = ⊥
IsDataBitTime resolution (Some rate) None = ⊥

-- an entry of the error script, whose node is one of the bus
pub record IsEntry (members : List ℕ) (e : ErrorEntry) : Type 0 where
  pub first : Between 1 (2 ^ 32) e.first
  pub count : Between 1 (2 ^ 32) e.count
  pub kind : Between 1 4 e.kind
  pub by : IfSome e.by (λ node. among members node ≡ true)
  pub bit : e.bit ≤ 1023

-- the places of the nodes that name a bus, where the first has this place
abbrev pub naming_from : ℕ → List NodePlan → ℕ → List ℕ
naming_from place [] bus = []
naming_from place (n ∷ ns) bus = if among n.buses bus then place ∷ naming_from (place + 1) ns bus else naming_from (place + 1) ns bus

-- A bus has its place as its number, and its nodes are those that name it.
pub record IsBusPlan (p : Plan) (place : ℕ) (b : BusPlan) : Type 0 where
  pub number : b.setup.number ≡ place
  pub rate : IsBitTime p.resolution b.setup.rate b.setup.nominal
  pub fd_rate : IsDataBitTime p.resolution b.setup.fd_rate b.setup.data_bit_time
  pub members : b.members ≡ naming_from 0 p.nodes place
  pub errors : All (IsEntry b.members) b.setup.errors

-- the value references of a terminal
abbrev pub references : Terminal → List ℕ
references t = t.rx_data ∷ t.tx_data ∷ t.rx_clock ∷ t.tx_clock ∷ []

pub record IsTerminal (t : Terminal) : Type 0 where
  pub rx_max : Between 256 65536 t.rx_max
  pub tx_max : Between 256 65536 t.tx_max
  pub references : All (λ r. r < 2 ^ 32) (references t)

-- 1 to 4 terminals and 8 countdown clocks at most, whose references are all different
pub record IsDescription (d : Description) : Type 0 where
  pub some_terminals : Between 1 4 (length d.terminals)
  pub few_clocks : length d.countdown ≤ 8
  pub terminals : All IsTerminal d.terminals
  pub clocks : All (λ r. r < 2 ^ 32) d.countdown
  pub references : AreDistinct (d.countdown ++ flat_map references d.terminals)

-- A node names one bus for each terminal, each a bus that is there, and none twice.
pub record IsNodePlan (buses : ℕ) (n : NodePlan) : Type 0 where
  pub description : IsDescription n.description
  pub one_each : length n.buses ≡ length n.description.terminals
  pub there : All (λ bus. bus < buses) n.buses
  pub distinct : AreDistinct n.buses

-- each of these, by its place, where the first has this place
abbrev pub AllFrom : {X : Type 0} → ℕ → (ℕ → X → Type 0) → List X → Type 0
AllFrom place P [] = ⊤
AllFrom place P (x ∷ xs) = P place x × AllFrom (place + 1) P xs

pub record IsPlan (p : Plan) : Type 0 where
  pub resolution : Between 1 (10 ^ 12) p.resolution
  pub stop : p.stop ≤ 2 ^ 62
  pub events : Between 1 (10 ^ 8) p.events
  pub fuel : Between 1 (10 ^ 9) p.fuel
  pub some_buses : Between 1 4 (length p.buses)
  pub some_nodes : Between 1 32 (length p.nodes)
  pub buses : AllFrom 0 (IsBusPlan p) p.buses
  pub nodes : All (IsNodePlan (length p.buses)) p.nodes

-- ---- its network

-- the nodes, numbered by their places, each with a new unit in its state
abbrev pub new_nodes : {S : Type 0} → ℕ → List NodePlan → List S → List (Node S)
new_nodes place (n ∷ ns) (s ∷ ss) = record { number = place; buses = n.buses; standing = New s } ∷ new_nodes (place + 1) ns ss
new_nodes place ns ss = []

abbrev pub opening_of : {S : Type 0} → Plan → List S → World S
opening_of p states = opening (map (λ b. new_bus b.setup b.members) p.buses) (new_nodes 0 p.nodes states)

-- what is known of the unit of a node
abbrev pub description_of : Plan → ℕ → Description
description_of p node = get_or (map (λ n. n.description) p.nodes) node (record { identifier = []; countdown = []; terminals = [] })

-- the clocks that tick, by their value references
abbrev pub session_in : ℕ → Description → Given → SessionIn
session_in resolution d g = record {
  moment = g.moment;
  last = g.last;
  resolution = resolution;
  ticked = map (λ place. get_or d.countdown place 0) g.ticked;
  inbox = g.inbox;
}

-- the units of a plan, by how a unit answers a call and in which phase it is
abbrev pub units_of : {S : Type 0} → (S → Call → Reply × S) → (S → Phase) → Plan → Units S
units_of answer phase_of p = record {
  session = λ node g s. let d = description_of p node in session.session_of answer phase_of d (session_in p.resolution d g) s;
  close = λ node s. session.close_of answer s;
}
