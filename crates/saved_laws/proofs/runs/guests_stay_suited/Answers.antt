use Rattle.saved_laws.proofs.Suited.{stay-suited}
use Rattle.saved_laws.proofs.runs.guests_stay_suited.Goals as goal

pub returns : goal.returns
returns c = record { along = stay-suited }
