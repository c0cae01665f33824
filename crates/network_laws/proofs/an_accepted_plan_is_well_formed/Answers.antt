use Rattle.network_laws.proofs.Planned.{planned}
use Rattle.network_laws.proofs.an_accepted_plan_is_well_formed.Goals as goal

pub returns : goal.returns
returns g c = planned
