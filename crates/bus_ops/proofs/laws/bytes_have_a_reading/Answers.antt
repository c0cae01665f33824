-- The law is the lemma.
use Rattle.bus_ops.proofs.ReadingLaws.{has_reading}
use Rattle.bus_ops.proofs.laws.bytes_have_a_reading.Goals as goal

pub returns : goal.returns
returns c = has_reading
