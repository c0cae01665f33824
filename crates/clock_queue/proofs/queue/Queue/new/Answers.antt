use Rattle.clock_queue.proofs.Kept.{kept_new}
use Rattle.clock_queue.proofs.queue.Queue.new.Goals as goal

pub invariant_of-result : goal.invariant_of-result
invariant_of-result g c = kept_new g.D.Due.rank c.args.entries c.in_ok-dues.dues.items c.in_ok-row.row.items c.in_ok-places.places.items c.in_ok-dues.ensures c.in_ok-row.ensures c.in_ok-places.ensures
