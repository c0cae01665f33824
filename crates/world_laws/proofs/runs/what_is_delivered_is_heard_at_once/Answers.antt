use Rattle.world_laws.proofs.Hearing.{receiver-hears, sender-hears}
use Rattle.world_laws.proofs.runs.what_is_delivered_is_heard_at_once.Goals as goal

pub returns-clause-received : goal.returns-clause-received
returns-clause-received g c = receiver-hears

pub returns-clause-confirmed : goal.returns-clause-confirmed
returns-clause-confirmed g c = sender-hears
