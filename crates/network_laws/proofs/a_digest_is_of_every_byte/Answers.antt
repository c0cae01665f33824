use Rattle.network_laws.proofs.Framing.{told}
use Rattle.network_laws.proofs.a_digest_is_of_every_byte.Goals as goal

pub returns : goal.returns
returns g c = told
