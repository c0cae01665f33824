use Rattle.std.proofs.Common.{◌≡◌, ◌+◌, true, false, slice_index, sym, ◌∙◌, arith}
use Rattle.clock_queue.specs.Order.{rank_of, before}
use Rattle.clock_queue.proofs.Digits.{digits_below, digits_grow}
use Rattle.clock_queue.proofs.Rows.{parted_exchanged}
use Rattle.clock_queue.proofs.Heaps.{sinks, sunk_under, closes, rests}
use Rattle.clock_queue.proofs.heap.sink.Goals as goal

pub returns-then-not-is_before-clause-heap : goal.returns-then-not-is_before-clause-heap
returns-then-not-is_before-clause-heap g c =
    let l = c.loop-at in
    let r = rank_of g.D.Due.rank c.args.dues.now in
    let b = c.first_below-below in
    let o = rw c.deref.ensures.value at c.is_before.ensures.order in
    let t : before r (slice_index l.heap.row.items b.result) (slice_index l.heap.row.items l.at) ≡ false = sym o
    ∙ c.if-not-is_before.true in
    closes r l.heap.row.items l.heap.count l.at l.invariant.but l.invariant.under
    (rests r l.heap.row.items l.heap.count l.at b.result t b.ensures.first)

pub returns-then-not-is_before-clause-cost : goal.returns-then-not-is_before-clause-cost
returns-then-not-is_before-clause-cost g c =
    let l = c.loop-at in
    let b = c.first_below-below in
    let more = digits_below l.at b.result b.ensures.low b.ensures.high in
    let grow = digits_grow (b.result + 1) l.heap.count (omega arith) in
    let same = l.invariant.count in
    let grow' = rw same at grow in
    omega (arith, more, grow')

pub loop-at-preserved : goal.loop-at-preserved
loop-at-preserved g c =
    let l = c.loop-at in
    let r = rank_of g.D.Due.rank c.args.dues.now in
    let b = c.first_below-below in
    let o = rw c.deref.ensures.value at c.is_before.ensures.order in
    let t : before r (slice_index l.heap.row.items b.result) (slice_index l.heap.row.items l.at) ≡ true = sym o
    ∙ c.if-not-is_before.false in
    let more = digits_below l.at b.result b.ensures.low b.ensures.high in
    record {
      parted = rw c.exchange.ensures.count
          (parted_exchanged c.args.dues.now l.heap.row.items l.heap.places.items c.exchange.new.heap.row.items c.exchange.new.heap.places.items
          l.heap.count l.at b.result l.invariant.parted c.exchange.ensures.row c.exchange.ensures.entries c.exchange.ensures.inverse
          (omega arith) (omega arith));
      count = c.exchange.ensures.count ∙ l.invariant.count;
      within = omega arith;
      but = rw c.exchange.ensures.count
          (sinks r l.heap.row.items c.exchange.new.heap.row.items l.heap.count l.at b.result b.ensures.low b.ensures.high b.ensures.within c.exchange.ensures.row t b.ensures.first l.invariant.but);
      under = sunk_under r l.heap.row.items c.exchange.new.heap.row.items l.heap.count l.at b.result b.ensures.low b.ensures.high b.ensures.within c.exchange.ensures.row t;
      later = omega arith;
      cost = omega (arith, more);
    }

pub returns-clause-cost : goal.returns-clause-cost
returns-clause-cost g c =
    let l = c.loop-at in
    let grow = digits_grow (l.at + 1) l.heap.count (omega arith) in
    let same = l.invariant.count in
    let grow' = rw same at grow in
    omega (arith, grow')
