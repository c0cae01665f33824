use Rattle.world_laws.proofs.Follows.{sessions-once}
use Rattle.world_laws.proofs.fits.a_moment_has_one_sessions.Goals as goal

pub returns : goal.returns
returns g c = record { later = sessions-once }
