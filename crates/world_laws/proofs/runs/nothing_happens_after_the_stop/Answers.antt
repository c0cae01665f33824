use Rattle.world_laws.proofs.InTurn.{within, lines-within}
use Rattle.world_laws.proofs.runs.nothing_happens_after_the_stop.Goals as goal

pub returns-clause-events : goal.returns-clause-events
returns-clause-events g c = within

pub returns-clause-lines : goal.returns-clause-lines
returns-clause-lines g c = lines-within
