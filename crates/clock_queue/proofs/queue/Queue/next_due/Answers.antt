use Rattle.std.proofs.Common.{sym}
use Rattle.clock_queue.proofs.Comes.{cmp_same, cmp_other}
use Rattle.clock_queue.proofs.Sets.{is_next, is_last, is_over}
use Rattle.clock_queue.proofs.queue.Queue.next_due.Goals as goal

pub returns-in_default-clause-done : goal.returns-in_default-clause-done
returns-in_default-clause-done g c =
    is_over g.D.Due.rank (g.D.Due.rank c.args.moment.now) c.args.self.now c.requires (sym c.in_default.ensures)

pub returns-in-Equal-clause-next : goal.returns-in-Equal-clause-next
returns-in-Equal-clause-next g c =
    is_next g.D.Due.rank (g.D.Due.rank c.args.moment.now) c.args.self.now c.requires _ (sym c.in-Some.ensures)
    (cmp_same _ _ c.order.result c.order.ensures.order c.in-Equal.is)

pub returns-in-Less : goal.returns-in-Less
returns-in-Less g c = record {
  next = tt;
  done = is_last g.D.Due.rank (g.D.Due.rank c.args.moment.now) c.args.self.now c.requires _ (sym c.in-Some.ensures)
      (cmp_other _ _ c.order.result c.order.ensures.order c.in-Less.is);
  later = c.order.ensures.later;
  cost = c.order.ensures.cost;
}
