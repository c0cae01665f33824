use Rattle.held_states.proofs.Runs.{lines-held, status-held, opening-held}
use Rattle.held_states.proofs.how_states_are_held_changes_no_log.Goals as goal

pub returns : goal.returns
returns g c = record { lines = lines-held; status = status-held; opening = opening-held }
