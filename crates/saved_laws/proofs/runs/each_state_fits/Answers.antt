use Rattle.saved_laws.proofs.Whole.{whole}
use Rattle.saved_laws.proofs.Suited.{stay-suited}
use Rattle.saved_laws.proofs.runs.each_state_fits.Goals as goal

pub returns-clause-fits : goal.returns-clause-fits
returns-clause-fits c = whole

pub returns-clause-along : goal.returns-clause-along
returns-clause-along c = λ u p guests k fit sets each keeps plan same few.
    whole u p guests k fit sets each plan same few (stay-suited u p guests p.stop k keeps same)
