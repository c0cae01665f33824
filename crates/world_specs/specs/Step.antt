-- One event of a network.
use Rattle.std.specs.Prelude.{ℕ, ◌+◌, ◌==◌, List, [], flat_map, map, if◌then◌else◌}
use Rattle.log_specs.specs.Line.{Line}
use Rattle.bus_specs.specs.Bus.{Bus}
use Rattle.bus_specs.specs.Start.{start}
use Rattle.bus_specs.specs.Finish.{finish, recover}
use Rattle.world_specs.specs.Units.{Units}
use Rattle.world_specs.specs.World.{World, Node}
use Rattle.world_specs.specs.Next.{What, Finish, Return, Sessions, Start, Event}
use Rattle.world_specs.specs.Sessions.{turns, turns_step, node_after}

-- what an event leaves, and its lines
pub record Outcome (S : Type 0) : Type 0 where
  pub buses : List Bus
  pub nodes : List (Node S)
  pub lines : List Line

-- what happens on one bus
abbrev pub on_bus : {S : Type 0} → World S → ℕ → (Bus → Bus × List Line) → Outcome S
on_bus w bus step = record {
  buses = map (λ b. if b.setup.number == bus then (step b).0 else b) w.buses;
  nodes = w.nodes;
  lines = flat_map (λ b. if b.setup.number == bus then (step b).1 else []) w.buses;
}

abbrev pub sessions : {S : Type 0} → Units S → World S → ℕ → Outcome S
sessions u w now = let r = turns_step now w.buses (turns u w.buses now w.nodes) in record {
  buses = r.0;
  nodes = map (node_after u w.buses now) w.nodes;
  lines = r.1;
}

abbrev pub outcome_of : {S : Type 0} → Units S → World S → ℕ → What → Outcome S
outcome_of u w now (Finish bus) = on_bus w bus (λ b. finish b now)
outcome_of u w now (Return bus node) = on_bus w bus (λ b. recover b now node)
outcome_of u w now Sessions = sessions u w now
outcome_of u w now (Start bus) = on_bus w bus (λ b. start b now)

-- the network behind an event
abbrev pub world_behind : {S : Type 0} → Units S → World S → Event → World S
world_behind u w e = let o = outcome_of u w e.moment e.what in record { events = w.events + 1; now = e.moment; buses = o.buses; nodes = o.nodes }

abbrev pub event_lines : {S : Type 0} → Units S → World S → Event → List Line
event_lines u w e = (outcome_of u w e.moment e.what).lines
