use Rattle.network_laws.proofs.OneMoreKey.{one_more}
use Rattle.network_laws.proofs.one_more_key_tells_the_same.Goals as goal

pub returns : goal.returns
returns c = one_more
