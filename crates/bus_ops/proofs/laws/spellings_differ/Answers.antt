-- The law is the lemma.
use Rattle.bus_ops.proofs.OperationLaws.{one_spelling}
use Rattle.bus_ops.proofs.laws.spellings_differ.Goals as goal

pub returns : goal.returns
returns c = one_spelling
