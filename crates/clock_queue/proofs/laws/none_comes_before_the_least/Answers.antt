use Rattle.clock_queue.proofs.Consequences.{least_set, least_unbeaten, least_none_before}
use Rattle.clock_queue.proofs.laws.none_comes_before_the_least.Goals as goal

pub returns-clause-is_set : goal.returns-clause-is_set
returns-clause-is_set g c = least_set g.D.Due.rank

pub returns-clause-unbeaten : goal.returns-clause-unbeaten
returns-clause-unbeaten g c = least_unbeaten g.D.Due.rank

pub returns-clause-none_due_before : goal.returns-clause-none_due_before
returns-clause-none_due_before g c = least_none_before g.D.Due.rank
