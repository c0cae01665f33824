use Rattle.world_laws.proofs.InTurn.{told}
use Rattle.world_laws.proofs.runs.each_log_tells_the_number_of_its_events.Goals as goal

pub returns : goal.returns
returns g c = record { number = told }
