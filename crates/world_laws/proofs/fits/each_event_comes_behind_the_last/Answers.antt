use Rattle.world_laws.proofs.Follows.{follows}
use Rattle.world_laws.proofs.fits.each_event_comes_behind_the_last.Goals as goal

pub returns : goal.returns
returns g c = record { behind = follows }
