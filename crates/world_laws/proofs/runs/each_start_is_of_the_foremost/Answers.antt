use Rattle.world_laws.proofs.Starting.{start-foremost}
use Rattle.world_laws.proofs.runs.each_start_is_of_the_foremost.Goals as goal

pub returns : goal.returns
returns g c = record { foremost = start-foremost }
