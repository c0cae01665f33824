use Rattle.std.proofs.Common.{◌≡◌, ◌+◌, ◌*◌, ◌≤◌, ◌++◌, length, vec_capacity}
use Rattle.clock_queue.specs.Dues.{entries_at, dues_behind, NoneBefore}
use Rattle.clock_queue.specs.Cost.{set_count, binary_digits}
use Rattle.clock_queue.proofs.queue.Queue.take_due.Given as goal

abbrev pub invariant-loop-entry : goal.invariant-loop-entry
invariant-loop-entry g l = record {
  early : NoneBefore g.D.Due.rank (g.D.Due.rank l.moment) l.self;
  due : l.due.items ++ entries_at g.D.Due.rank (g.D.Due.rank l.moment) l.self ≡ entries_at g.D.Due.rank (g.D.Due.rank l.moment) l.fn.self;
  left : dues_behind g.D.Due.rank (g.D.Due.rank l.moment) l.self ≡ dues_behind g.D.Due.rank (g.D.Due.rank l.moment) l.fn.self;
  counted : length l.due.items + set_count l.self ≡ set_count l.fn.self;
  room : set_count l.fn.self ≤ vec_capacity l.due;
  later : g.J.Judge.count l.fn.judge ≤ g.J.Judge.count l.judge;
  cost : g.J.Judge.count l.judge ≤ g.J.Judge.count l.fn.judge + length l.due.items * (2 * binary_digits (set_count l.fn.self) + 1);
}

abbrev pub decreases-loop-entry : goal.decreases-loop-entry
decreases-loop-entry g l = set_count l.self
