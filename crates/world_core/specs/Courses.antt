-- A network without its units: its plan, its buses, how far each node is, and eight clock entries a node. With the states of its
-- units it is a network of the definitions.
use Rattle.std.specs.Prelude.{ℕ, ◌+◌, ◌*◌, List, [], ◌∷◌, Option, None, drop, length, map, replicate, take}
use Rattle.bus_specs.specs.Bus.{Bus, new_bus}
use Rattle.world_specs.specs.World as model
use Rattle.world_specs.specs.World.{Node, World}
use Rattle.world_specs.specs.Plan.{BusPlan, NodePlan, Plan}
use Rattle.world_core.specs.declared.standing.Standing.{Standing}
use Rattle.world_core.specs.declared.standing.Standing.TheVariants.{New, Live, Down, Over}

-- what a bus was made from
abbrev pub plan_of_bus : Bus → BusPlan
plan_of_bus b = record { setup = b.setup; members = map (λ m. m.node) b.members }

pub record Course : Type 0 where
  pub plan : Plan
  pub buses : List Bus
  pub standings : List Standing
  pub clocks : List (Option ℕ)
  pub events : ℕ
  pub now : ℕ

-- a node's standing, with the state of its unit and its clocks
abbrev pub standing_of : {S : Type 0} → Standing → S → List (Option ℕ) → model.Standing S
standing_of New s clocks = model.New s
standing_of (Live last) s clocks = model.Live s last clocks
standing_of Down s clocks = model.Down
standing_of Over s clocks = model.Over

-- the nodes, numbered by their places, where the first has this place; the first of eight entries are those of its clocks
abbrev pub nodes_from : {S : Type 0} → ℕ → List NodePlan → List Standing → List S → List (Option ℕ) → List (Node S)
nodes_from place (n ∷ ns) (t ∷ ts) (s ∷ ss) cs =
    record { number = place; buses = n.buses; standing = standing_of t s (take (length n.description.countdown) cs) } ∷ nodes_from (place + 1) ns ts ss (drop 8 cs)
nodes_from place ns ts ss cs = []

abbrev pub network_of : {S : Type 0} → Course → List S → World S
network_of c states = record { events = c.events; now = c.now; buses = c.buses; nodes = nodes_from 0 c.plan.nodes c.standings states c.clocks }

-- nothing has happened
abbrev pub opening_course : Plan → Course
opening_course p = record {
  plan = p;
  buses = map (λ b. new_bus b.setup b.members) p.buses;
  standings = replicate (length p.nodes) New;
  clocks = replicate (length p.nodes * 8) None;
  events = 0;
  now = 0;
}
