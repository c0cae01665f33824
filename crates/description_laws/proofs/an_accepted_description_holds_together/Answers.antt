use Rattle.description_laws.proofs.AcceptedTerminals.{description_fits}
use Rattle.description_laws.proofs.an_accepted_description_holds_together.Goals as goal

pub returns : goal.returns
returns c = description_fits
