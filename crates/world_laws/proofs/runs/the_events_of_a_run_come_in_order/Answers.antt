use Rattle.world_laws.proofs.InTurn.{in-order}
use Rattle.world_laws.proofs.runs.the_events_of_a_run_come_in_order.Goals as goal

pub returns : goal.returns
returns g c = record { order = in-order }
