use Rattle.world_laws.proofs.Left.{left}
use Rattle.world_laws.proofs.fits.who_is_not_live_holds_nothing.Goals as goal

pub returns : goal.returns
returns g c = record { nothing = left }
