use Rattle.log_laws.proofs.Laws.{deliveries-reach, failures-of}
use Rattle.log_laws.proofs.each_frame_reaches_its_listeners.Goals as goal

pub returns-clause-delivered : goal.returns-clause-delivered
returns-clause-delivered c = deliveries-reach

pub returns-clause-failed : goal.returns-clause-failed
returns-clause-failed c = failures-of
