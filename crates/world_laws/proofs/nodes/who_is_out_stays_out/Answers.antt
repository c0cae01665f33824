use Rattle.world_laws.proofs.Changed.{stays-out}
use Rattle.world_laws.proofs.nodes.who_is_out_stays_out.Goals as goal

pub returns : goal.returns
returns g c = record { same = stays-out }
