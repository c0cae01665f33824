-- The law is the lemma.
use Rattle.bus_ops.proofs.ReadingLaws.{written_is}
use Rattle.bus_ops.proofs.laws.written_is_read.Goals as goal

pub returns : goal.returns
returns c = written_is
