use Rattle.std.proofs.Common.{◌≡◌, ◌+◌, ◌<◌, ◌≤◌}
use Rattle.clock_queue.specs.Cost.{binary_digits}
use Rattle.clock_queue.specs.Order.{rank_of, AreParted, IsHeapBut, NoneBelow}
use Rattle.clock_queue.proofs.heap.rise.Given as goal

abbrev pub invariant-loop-at : goal.invariant-loop-at
invariant-loop-at g l = record {
  parted : AreParted l.dues l.heap.row.items l.heap.places.items l.heap.count;
  count : l.heap.count ≡ l.fn.heap.count;
  start : l.start < l.heap.count;
  within : l.at ≤ l.start;
  but : IsHeapBut (rank_of g.D.Due.rank l.dues) l.heap.row.items l.heap.count l.at;
  over : l.at < l.start → NoneBelow (rank_of g.D.Due.rank l.dues) l.heap.row.items l.heap.count l.at l.at;
  later : g.J.Judge.count l.fn.judge ≤ g.J.Judge.count l.judge;
  cost : g.J.Judge.count l.judge + binary_digits (l.at + 1) ≤ g.J.Judge.count l.fn.judge + binary_digits (l.start + 1);
}

abbrev pub decreases-loop-at : goal.decreases-loop-at
decreases-loop-at g l = l.at
