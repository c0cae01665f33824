use Rattle.world_laws.proofs.Changed.{all-in}
use Rattle.world_laws.proofs.nodes.others_have_no_session.Goals as goal

pub returns : goal.returns
returns g c = record { new_or_live = all-in }
