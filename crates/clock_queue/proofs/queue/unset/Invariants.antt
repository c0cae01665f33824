use Rattle.std.proofs.Common.{◌≡◌, replicate, None}
use Rattle.clock_queue.proofs.queue.unset.Given as goal

abbrev pub invariant-loop-entry : goal.invariant-loop-entry
invariant-loop-entry g l = l.dues.items ≡ replicate l._entry None
