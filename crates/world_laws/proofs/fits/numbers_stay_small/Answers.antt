use Rattle.world_laws.proofs.Counted.{counted-step, counted-within, counted-along, counted-opens}
use Rattle.world_laws.proofs.fits.numbers_stay_small.Goals as goal

pub returns-clause-opens : goal.returns-clause-opens
returns-clause-opens g c = counted-opens

pub returns-clause-step : goal.returns-clause-step
returns-clause-step g c = counted-step

pub returns-clause-along : goal.returns-clause-along
returns-clause-along g c = counted-along

pub returns-clause-within : goal.returns-clause-within
returns-clause-within g c = counted-within
