use Rattle.world_laws.proofs.Ended.{log-ends}
use Rattle.world_laws.proofs.events.each_log_ends_with_its_status.Goals as goal

pub returns : goal.returns
returns g c = record { ends = log-ends }
