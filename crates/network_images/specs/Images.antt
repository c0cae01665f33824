-- What is saved of a network: all of its state that its plan and its units don't tell. Contracts cite this module.
use Rattle.std.specs.Prelude.{ℕ, ◌+◌, Bool, true, false, List, [], ◌∷◌, map, if◌then◌else◌, Option}
use Rattle.bus_images.specs.Images.{BusImage, bus_image, bus_from}
use Rattle.bus_specs.specs.Bus.{Bus}
use Rattle.world_specs.specs.World as world
use Rattle.world_specs.specs.World.{World, Node, Standing}
use Rattle.world_specs.specs.Plan.{BusPlan, NodePlan, Plan}

-- A node without its number and its buses; what is saved of the unit of a live one is of the type U. Of a new one the unit is as it
-- begins, and of one that is down or over nothing is saved.
pub data NodeImage (U : Type 0) : Type 0 where
  New Down Over : NodeImage U
  Live : (last : ℕ) (clocks : List (Option ℕ)) (unit : U) → NodeImage U

-- the events so far, the moment of the last, the buses and the nodes in their places
pub record NetworkImage (U : Type 0) : Type 0 where
  pub events : ℕ
  pub now : ℕ
  pub buses : List BusImage
  pub nodes : List (NodeImage U)

-- ---- what is saved, by what is saved of a unit

abbrev pub node_image : {S U : Type 0} → (S → U) → Standing S → NodeImage U
node_image unit (world.New s) = New
node_image unit (world.Live s last clocks) = Live last clocks (unit s)
node_image unit world.Down = Down
node_image unit world.Over = Over

abbrev pub network_image : {S U : Type 0} → (S → U) → World S → NetworkImage U
network_image unit w = record {
  events = w.events;
  now = w.now;
  buses = map bus_image w.buses;
  nodes = map (λ n. node_image unit n.standing) w.nodes;
}

-- ---- the way back, by a plan and the states of its units

abbrev pub is_live : {U : Type 0} → NodeImage U → Bool
is_live New = false
is_live (Live last clocks unit) = true
is_live Down = false
is_live Over = false

-- the places of the live nodes, where the first has this place
abbrev pub live_from : {U : Type 0} → ℕ → List (NodeImage U) → List ℕ
live_from place [] = []
live_from place (i ∷ is) = if is_live i then place ∷ live_from (place + 1) is else live_from (place + 1) is

abbrev pub standing_from : {S U : Type 0} → S → NodeImage U → Standing S
standing_from s New = world.New s
standing_from s (Live last clocks unit) = world.Live s last clocks
standing_from s Down = world.Down
standing_from s Over = world.Over

-- the nodes, numbered by their places, where the first has this place
abbrev pub nodes_from : {S U : Type 0} → ℕ → List NodePlan → List S → List (NodeImage U) → List (Node S)
nodes_from place (n ∷ ns) (s ∷ ss) (i ∷ is) =
    record { number = place; buses = n.buses; standing = standing_from s i } ∷ nodes_from (place + 1) ns ss is
nodes_from place ns ss is = []

-- each image is that of the bus in its place, on which these nodes are live
abbrev pub buses_from : (live : List ℕ) → List BusPlan → List BusImage → List Bus
buses_from live (b ∷ bs) (i ∷ is) = bus_from b.setup b.members live i ∷ buses_from live bs is
buses_from live bs is = []

abbrev pub network_from : {S U : Type 0} → Plan → List S → NetworkImage U → World S
network_from p states i = record {
  events = i.events;
  now = i.now;
  buses = buses_from (live_from 0 i.nodes) p.buses i.buses;
  nodes = nodes_from 0 p.nodes states i.nodes;
}
