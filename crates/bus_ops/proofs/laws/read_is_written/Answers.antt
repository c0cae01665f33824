-- The law is the lemma.
use Rattle.bus_ops.proofs.ReadingLaws.{read_begins}
use Rattle.bus_ops.proofs.laws.read_is_written.Goals as goal

pub returns : goal.returns
returns c = read_begins
