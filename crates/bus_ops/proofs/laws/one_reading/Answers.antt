-- The law is the lemma.
use Rattle.bus_ops.proofs.ReadingLaws.{readings_same}
use Rattle.bus_ops.proofs.laws.one_reading.Goals as goal

pub returns : goal.returns
returns c = readings_same
