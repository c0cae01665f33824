use Rattle.world_laws.proofs.Changed.{not-closed, closed-out}
use Rattle.world_laws.proofs.nodes.only_live_nodes_are_closed.Goals as goal

pub returns-clause-same : goal.returns-clause-same
returns-clause-same g c = not-closed

pub returns-clause-out : goal.returns-clause-out
returns-clause-out g c = closed-out
