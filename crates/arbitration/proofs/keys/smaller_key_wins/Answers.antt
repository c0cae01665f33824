-- The law is the lemma.
use Rattle.arbitration.proofs.KeyOrder.{beats-by_key}
use Rattle.arbitration.proofs.keys.smaller_key_wins.Goals as goal

pub returns : goal.returns
returns c = beats-by_key
