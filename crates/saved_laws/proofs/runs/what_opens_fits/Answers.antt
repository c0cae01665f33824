use Rattle.saved_laws.proofs.Opened.{opened}
use Rattle.saved_laws.proofs.runs.what_opens_fits.Goals as goal

pub returns : goal.returns
returns c = record { fits = opened }
