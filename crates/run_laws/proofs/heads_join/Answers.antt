use Rattle.run_laws.proofs.Joined.{heads-join}
use Rattle.run_laws.proofs.heads_join.Goals as goal

pub returns : goal.returns
returns g c = heads-join
