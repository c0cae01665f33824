use Rattle.world_laws.proofs.Opens.{plan-opens}
use Rattle.world_laws.proofs.fits.plans_open_networks_that_fit.Goals as goal

pub returns : goal.returns
returns g c = record { fits = λ p states ok. plan-opens p ok states }
