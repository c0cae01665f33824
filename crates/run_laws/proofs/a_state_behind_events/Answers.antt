use Rattle.run_laws.proofs.Joined.{behind-joins}
use Rattle.run_laws.proofs.a_state_behind_events.Goals as goal

pub returns : goal.returns
returns g c = behind-joins
