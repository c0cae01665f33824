use Rattle.world_laws.proofs.Fitting.{nothing-waits}
use Rattle.world_laws.proofs.fits.sessions_leave_nothing_waiting.Goals as goal

pub returns : goal.returns
returns g c = record { nothing = λ u w t h. nothing-waits u w h t }
