use Rattle.std.proofs.Common.{sym, ◌∙◌}
use Rattle.frame_bits.proofs.Stuffing.{length-stuff_open}
use Rattle.frame_bits.proofs.counter.Counter.close.Goals as goal

pub returns-in-Fd-clause-count : goal.returns-in-Fd-clause-count
returns-in-Fd-clause-count c = rw c.in-Fd.is (λ bits took. took.counts.count_is ∙ sym (length-stuff_open bits))
