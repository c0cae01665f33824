use Rattle.clock_queue.proofs.Consequences.{set_better}
use Rattle.clock_queue.proofs.laws.a_set_keeps_the_better.Goals as goal

pub returns : goal.returns
returns g c = set_better g.D.Due.rank
