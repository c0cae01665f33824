use Rattle.world_laws.proofs.Changed.{unchanged, own-session}
use Rattle.world_laws.proofs.nodes.only_who_takes_part_changes.Goals as goal

pub returns-clause-same : goal.returns-clause-same
returns-clause-same g c = unchanged

pub returns-clause-own : goal.returns-clause-own
returns-clause-own g c = own-session
