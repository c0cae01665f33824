-- What an event does to a world, and what is left where memory runs out. Public clauses cite this file.
use Rattle.std.specs.Prelude.{◌≡◌, Some, true, false, List}
use Rattle.fmi_states.specs.declared.ecu.Ecu.{Ghosts}
use Rattle.log_specs.specs.Line.{Line}
use Rattle.world_specs.specs.Network.{step}
use Rattle.world_specs.specs.Next.{Event}
use Rattle.world_specs.specs.Plan.{units_of}
use Rattle.world_core.specs.Left.{KeepsShared, units_behind}
use Rattle.world_core.specs.Seen.{Seen}

-- The network made its step and gave these lines; each unit is in the state behind its session and owns the parts that it owned; all
-- else stays. The world goes on.
pub record Happened {E G S : Type 0} (g : Ghosts E G S) (old : Seen S G) (e : Event) (lines : List Line) (new : Seen S G) : Type 0 where
  pub step : step (units_of g.answer g.phase_of old.plan) old.plan.stop old.network ≡ Some (new.network, lines)
  pub units : new.units ≡ units_behind (units_of g.answer g.phase_of old.plan) old.network e old.units
  pub parts : new.parts ≡ old.parts
  pub shared : KeepsShared e.what old.shared new.shared
  pub plan : new.plan ≡ old.plan
  pub goes_on : new.failed ≡ false

-- The world has failed, and no event was counted.
pub record Failed {S G : Type 0} (old new : Seen S G) : Type 0 where
  pub fails : new.failed ≡ true
  pub events : new.network.events ≡ old.network.events
