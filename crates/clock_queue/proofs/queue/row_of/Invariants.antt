use Rattle.clock_queue.specs.Order.{CountsUp}
use Rattle.clock_queue.proofs.queue.row_of.Given as goal

abbrev pub invariant-loop-entry : goal.invariant-loop-entry
invariant-loop-entry l = CountsUp l.entry l.row.items
