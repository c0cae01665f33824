-- The law is the lemma.
use Rattle.bus_ops.proofs.ReadingLaws.{reads_whole}
use Rattle.bus_ops.proofs.laws.read_is_whole.Goals as goal

pub returns : goal.returns
returns c = reads_whole
