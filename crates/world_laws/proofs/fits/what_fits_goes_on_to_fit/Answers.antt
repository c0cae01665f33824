use Rattle.world_laws.proofs.Fitting.{fits-step, fits-along}
use Rattle.world_laws.proofs.fits.what_fits_goes_on_to_fit.Goals as goal

pub returns-clause-step : goal.returns-clause-step
returns-clause-step g c = fits-step

pub returns-clause-along : goal.returns-clause-along
returns-clause-along g c = fits-along
