-- The law is two lemmas.
use Rattle.arbitration.proofs.KeyOrder.{bits-by_key, key-by_bits}
use Rattle.arbitration.proofs.keys.equal_keys_arbitrate_alike.Goals as goal

pub returns : goal.returns
returns c = λ f g. (bits-by_key f g, key-by_bits f g)
