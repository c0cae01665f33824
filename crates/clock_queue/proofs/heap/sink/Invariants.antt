use Rattle.std.proofs.Common.{◌≡◌, ◌+◌, ◌-◌, ◌*◌, ◌<◌, ◌≤◌}
use Rattle.clock_queue.specs.Cost.{binary_digits}
use Rattle.clock_queue.specs.Order.{rank_of, AreParted, IsHeapBut, IsUnder}
use Rattle.clock_queue.proofs.heap.sink.Given as goal

abbrev pub invariant-loop-at : goal.invariant-loop-at
invariant-loop-at g l = record {
  parted : AreParted l.dues l.heap.row.items l.heap.places.items l.heap.count;
  count : l.heap.count ≡ l.fn.heap.count;
  within : l.at < l.heap.count;
  but : IsHeapBut (rank_of g.D.Due.rank l.dues) l.heap.row.items l.heap.count l.at;
  under : IsUnder (rank_of g.D.Due.rank l.dues) l.heap.row.items l.at;
  later : g.J.Judge.count l.fn.judge ≤ g.J.Judge.count l.judge;
  cost : g.J.Judge.count l.judge + 2 * binary_digits (l.start + 1) ≤ g.J.Judge.count l.fn.judge + 2 * binary_digits (l.at + 1);
}

abbrev pub decreases-loop-at : goal.decreases-loop-at
decreases-loop-at g l = l.heap.count - l.at
