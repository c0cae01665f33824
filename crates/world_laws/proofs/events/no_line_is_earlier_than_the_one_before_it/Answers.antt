use Rattle.world_laws.proofs.Lined.{event-at, log-rises}
use Rattle.world_laws.proofs.events.no_line_is_earlier_than_the_one_before_it.Goals as goal

pub returns-clause-at : goal.returns-clause-at
returns-clause-at g c = event-at

pub returns-clause-rise : goal.returns-clause-rise
returns-clause-rise g c = log-rises
