use Rattle.std.proofs.Common.{◌<◌, sym, arith}
use Rattle.std.proofs.lemmas.List.{get_or_read}
use Rattle.clock_queue.proofs.Kept.{top_least}
use Rattle.clock_queue.proofs.queue.Queue.least.Goals as goal

pub returns : goal.returns
returns g c =
    let q = c.self.inside in
    let h = c.self.invariant in
    let entry = c.index-entry.result.now in
    let some : 0 < q.heap.count = omega (arith, c.if-self-eq0.false) in
    let e = get_or_read q.heap.row.items 0 entry (omega (arith, some, h.parted.within)) c.index-entry.ensures 0 in
    let d = rw c.deref.ensures.value at c.due_at.ensures in
    rw (← c.self.view_is)
    (sym (top_least g.D.Due.rank q.dues.items q.heap.row.items q.heap.places.items q.heap.count h entry c.due_at.result.now some e d))
