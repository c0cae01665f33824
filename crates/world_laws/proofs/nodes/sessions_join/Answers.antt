use Rattle.world_laws.proofs.Changed.{last-at}
use Rattle.world_laws.proofs.nodes.sessions_join.Goals as goal

pub returns : goal.returns
returns g c = record { last = last-at }
