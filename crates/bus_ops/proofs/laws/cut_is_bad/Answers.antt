-- The law is the lemma.
use Rattle.bus_ops.proofs.ReadingLaws.{cut_reads}
use Rattle.bus_ops.proofs.laws.cut_is_bad.Goals as goal

pub returns : goal.returns
returns c = cut_reads
