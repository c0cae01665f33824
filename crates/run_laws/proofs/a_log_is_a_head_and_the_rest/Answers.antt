use Rattle.run_laws.proofs.Joined.{log-splits}
use Rattle.run_laws.proofs.a_log_is_a_head_and_the_rest.Goals as goal

pub returns : goal.returns
returns g c = log-splits
