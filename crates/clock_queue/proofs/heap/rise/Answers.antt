use Rattle.std.proofs.Common.{◌≡◌, ◌-◌, ◌/◌, true, slice_index, sym, ◌∙◌, arith}
use Rattle.clock_queue.specs.Order.{rank_of, before}
use Rattle.clock_queue.proofs.Digits.{digits_below}
use Rattle.clock_queue.proofs.Rows.{parted_exchanged}
use Rattle.clock_queue.proofs.Heaps.{rises, risen_over}
use Rattle.clock_queue.proofs.heap.rise.Goals as goal

pub loop-at-preserved : goal.loop-at-preserved
loop-at-preserved g c =
    let l = c.loop-at in
    let r = rank_of g.D.Due.rank c.args.dues.now in
    let above = (l.at - 1) / 2 in
    let o = rw c.deref.ensures.value at c.is_before.ensures.order in
    let t : before r (slice_index l.heap.row.items l.at) (slice_index l.heap.row.items above) ≡ true = sym o ∙ c.if-not-is_before.false in
    let more = digits_below above l.at (omega arith) (omega arith) in
    record {
      parted = rw c.exchange.ensures.count
          (parted_exchanged c.args.dues.now l.heap.row.items l.heap.places.items c.exchange.new.heap.row.items c.exchange.new.heap.places.items
          l.heap.count above l.at l.invariant.parted c.exchange.ensures.row c.exchange.ensures.entries c.exchange.ensures.inverse
          (omega arith) (omega arith));
      count = c.exchange.ensures.count ∙ l.invariant.count;
      start = omega arith;
      within = omega arith;
      but = rw c.exchange.ensures.count
          (rises r l.heap.row.items c.exchange.new.heap.row.items l.heap.count above l.at (omega arith) (omega arith)
          (omega arith) c.exchange.ensures.row t l.invariant.but);
      over = λ _. rw c.exchange.ensures.count
          (risen_over r l.heap.row.items c.exchange.new.heap.row.items l.heap.count above l.at (omega arith) (omega arith)
          (omega arith) c.exchange.ensures.row t l.invariant.but);
      later = omega arith;
      cost = omega (arith, more);
    }
