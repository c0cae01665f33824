use Rattle.log_laws.proofs.Prompt.{starts-prompt}
use Rattle.log_laws.proofs.Laws.{starts-foremost, starters-take-part, starts-free}
use Rattle.log_laws.proofs.each_start_is_of_the_foremost.Goals as goal

pub returns-clause-foremost : goal.returns-clause-foremost
returns-clause-foremost c = starts-foremost

pub returns-clause-takes_part : goal.returns-clause-takes_part
returns-clause-takes_part c = starters-take-part

pub returns-clause-free : goal.returns-clause-free
returns-clause-free c = starts-free

pub returns-clause-prompt : goal.returns-clause-prompt
returns-clause-prompt c = starts-prompt
