use Rattle.log_laws.proofs.Laws.{losers-told, losses-behind, discarded-wait}
use Rattle.log_laws.proofs.each_loser_is_told.Goals as goal

pub returns-clause-losers : goal.returns-clause-losers
returns-clause-losers c = losers-told

pub returns-clause-behind : goal.returns-clause-behind
returns-clause-behind c = losses-behind

pub returns-clause-waits : goal.returns-clause-waits
returns-clause-waits c = discarded-wait
