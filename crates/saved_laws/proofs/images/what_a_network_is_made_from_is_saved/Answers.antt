use Rattle.saved_laws.proofs.Imaged.{made-is-saved}
use Rattle.saved_laws.proofs.images.what_a_network_is_made_from_is_saved.Goals as goal

pub returns : goal.returns
returns g c = record { image = λ unit p states i h saved. made-is-saved unit p states i h saved }
