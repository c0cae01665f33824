use Rattle.world_laws.proofs.Planned.{units-fit}
use Rattle.world_laws.proofs.fits.units_of_a_plan_fit.Goals as goal

pub returns : goal.returns
returns g c = record { fit = λ answer phase_of p bytes. units-fit answer bytes phase_of p }
