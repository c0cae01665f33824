use Rattle.world_laws.proofs.Cases.{two_buses-is}
use Rattle.world_laws.proofs.fits.the_laws_have_cases.Goals as goal

pub returns : goal.returns
returns c = record { plan = two_buses-is }
