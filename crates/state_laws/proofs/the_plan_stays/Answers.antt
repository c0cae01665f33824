use Rattle.state_laws.proofs.Planned.{planned-along}
use Rattle.state_laws.proofs.the_plan_stays.Goals as goal

pub returns : goal.returns
returns g c = record { along = planned-along }
