use Rattle.std.proofs.Common.{sym, ◌∙◌}
use Rattle.frame_bits.proofs.Stuffing.{length-stuff_open}
use Rattle.frame_bits.proofs.counter.Counter.count.Goals as goal

pub returns-clause-written : goal.returns-clause-written
returns-clause-written c = λ bits took. took.counts.count_is ∙ sym (length-stuff_open bits)
