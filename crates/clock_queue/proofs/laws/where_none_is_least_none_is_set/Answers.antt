use Rattle.clock_queue.proofs.Consequences.{none_set}
use Rattle.clock_queue.proofs.laws.where_none_is_least_none_is_set.Goals as goal

pub returns : goal.returns
returns g c = none_set g.D.Due.rank
