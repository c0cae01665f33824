use Rattle.bus_sound.proofs.Among.{among-Contains}
use Rattle.bus_specs.specs.Start.{listeners}
use Rattle.play_laws.proofs.Attempts.{able-by, detected, passive-own, unheard, alone, heard}
use Rattle.play_laws.proofs.each_failure_is_detected_by_its_own.Goals as goal

pub returns-clause-detected : goal.returns-clause-detected
returns-clause-detected c b since now r e s k = detected b since now r s e k

pub returns-clause-able : goal.returns-clause-able
returns-clause-able c b since now r e s k = able-by b since now r s e k

pub returns-clause-passive : goal.returns-clause-passive
returns-clause-passive c b since now r e m s k a n p = passive-own b since now r s e m k (among-Contains b.members m a) n p

pub returns-clause-unheard : goal.returns-clause-unheard
returns-clause-unheard c b since now r s e = unheard b since now r s e

pub returns-clause-alone : goal.returns-clause-alone
returns-clause-alone c b since now r x s k l = alone b since now r s x k l

pub returns-clause-heard : goal.returns-clause-heard
returns-clause-heard c b since now r x node s k a ne = heard b since now r s x node k (among-Contains (listeners b r.sender) node a) ne
