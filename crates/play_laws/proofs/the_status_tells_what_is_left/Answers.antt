use Rattle.play_laws.proofs.Statuses.{status-spent, status-done, one-more, no-more}
use Rattle.play_laws.proofs.the_status_tells_what_is_left.Goals as goal

pub returns-clause-spent : goal.returns-clause-spent
returns-clause-spent c = status-spent

pub returns-clause-done : goal.returns-clause-done
returns-clause-done c = status-done

pub returns-clause-one_more : goal.returns-clause-one_more
returns-clause-one_more c = one-more

pub returns-clause-no_more : goal.returns-clause-no_more
returns-clause-no_more c = no-more
