-- What holds of the network of a plan in every state of a run, whatever its units are, with the bounds of all its numbers.
use Rattle.std.specs.Prelude.{◌≤◌, ◌<◌, ℕ, ◌^◌, All, IfSome, List}
use Rattle.bus_specs.specs.Bus.{Bus}
use Rattle.world_specs.specs.World.{World}
use Rattle.world_specs.specs.Plan.{Plan}
use Rattle.world_specs.specs.Fits.{Fits}
use Rattle.world_laws.specs.Words.{IsCounted}
use Rattle.state_laws.specs.Words.{IdentifiersBelow, IsDueBy, ClocksBy, IsNewAtFirst}

-- by which moment, in ticks, all that is still to happen happens
abbrev pub latest : ℕ
latest = 2 ^ 63

-- by so many nodes the request numbers are counted: twice as many as a plan may have
abbrev pub counted_nodes : ℕ
counted_nodes = 64

-- the identifiers in notices and mail have 32 bits, and the number of the running frame 64
pub record IsInRange (b : Bus) : Type 0 where
  pub identifiers : All (IdentifiersBelow (2 ^ 32)) b.members
  pub running : IfSome b.running (λ r. r.number < 2 ^ 64)

pub record IsWithin {S : Type 0} (p : Plan) (states : List S) (w : World S) : Type 0 where
  -- each bus is sound, nothing that is still to happen is past, and nodes are live on their buses while they are live
  pub fits : Fits w
  -- within the budget and the stop; all nodes are new exactly before the first event
  pub events : w.events ≤ p.events
  pub now : w.now ≤ p.stop
  pub new : IsNewAtFirst p states w
  -- attempts and request numbers, by the events so far
  pub counted : All (IsCounted counted_nodes w.events) w.buses
  -- no moment is past the latest one
  pub due : All (IsDueBy latest) w.buses
  pub clocks : All (λ n. ClocksBy latest n.standing) w.nodes
  pub ranges : All IsInRange w.buses
