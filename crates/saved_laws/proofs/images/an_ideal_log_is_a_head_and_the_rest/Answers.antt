use Rattle.saved_laws.proofs.Rests.{ideal-cut, ideal-cut-status}
use Rattle.saved_laws.proofs.images.an_ideal_log_is_a_head_and_the_rest.Goals as goal

pub returns-clause-lines : goal.returns-clause-lines
returns-clause-lines c = ideal-cut

pub returns-clause-status : goal.returns-clause-status
returns-clause-status c = ideal-cut-status
