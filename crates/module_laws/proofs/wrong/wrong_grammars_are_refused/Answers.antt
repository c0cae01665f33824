use Rattle.module_laws.proofs.Refused.{front-refused, unmarked-refused, cause-refused}
use Rattle.module_laws.proofs.wrong.wrong_grammars_are_refused.Goals as goal

pub returns-clause-more_behind : goal.returns-clause-more_behind
returns-clause-more_behind c = front-refused

pub returns-clause-unmarked : goal.returns-clause-unmarked
returns-clause-unmarked c = unmarked-refused

pub returns-clause-unmarked_cause : goal.returns-clause-unmarked_cause
returns-clause-unmarked_cause c = cause-refused
