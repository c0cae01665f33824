use Rattle.std.proofs.Common.{◌≡◌, ◌<◌, ◌-◌, length, slice_index, max, set, None, sym, ap, ◌∙◌, arith}
use Rattle.std.proofs.lemmas.List.{get_or_read}
use Rattle.clock_queue.specs.Cost.{set_count}
use Rattle.clock_queue.proofs.Digits.{digits_grow}
use Rattle.clock_queue.proofs.Sets.{clear_none}
use Rattle.clock_queue.proofs.Kept.{entry_unset, less_parted, less_but, less_heap, less_counted}
use Rattle.clock_queue.proofs.queue.Queue.clear.Goals as goal

pub mend-requires-clause-parted : goal.mend-requires-clause-parted
mend-requires-clause-parted g c =
    let q = c.self.inside in
    let h = c.self.invariant in
    let rank = g.D.Due.rank in
    let at = c.index-at.result.now in
    let within : c.args.entry < length q.dues.items = omega (arith, c.requires, ap length c.self.view_is) in
    let is : at ≡ slice_index q.heap.places.items c.args.entry = get_or_read q.heap.places.items c.args.entry at
    (omega (arith, within, h.parted.entries, h.parted.inverse.same)) c.index-at.ensures 0 in
    rw c.deref.ensures.value
    (less_parted rank q.dues.items q.heap.row.items q.heap.places.items q.heap.count h c.args.entry at is within c.if-at-self.true
    (q.heap.count - 1)
    (omega arith) c.exchange.new.heap.row.items c.exchange.new.heap.places.items c.exchange.ensures.row c.exchange.ensures.entries c.exchange.ensures.inverse)

pub mend-requires-clause-but : goal.mend-requires-clause-but
mend-requires-clause-but g c =
    let q = c.self.inside in
    let h = c.self.invariant in
    let rank = g.D.Due.rank in
    let at = c.index-at.result.now in
    let within : c.args.entry < length q.dues.items = omega (arith, c.requires, ap length c.self.view_is) in
    let is : at ≡ slice_index q.heap.places.items c.args.entry = get_or_read q.heap.places.items c.args.entry at
    (omega (arith, within, h.parted.entries, h.parted.inverse.same)) c.index-at.ensures 0 in
    rw c.deref.ensures.value
    (less_but rank q.dues.items q.heap.row.items q.heap.places.items q.heap.count h c.args.entry at is within c.if-at-self.true
    (q.heap.count - 1)
    (omega arith) c.exchange.new.heap.row.items c.exchange.new.heap.places.items c.exchange.ensures.row c.exchange.ensures.entries c.exchange.ensures.inverse)

pub invariant_of-self : goal.invariant_of-self
invariant_of-self g c =
    let q = c.self.inside in
    let h = c.self.invariant in
    let rank = g.D.Due.rank in
    let at = c.index-at.result.now in
    let within : c.args.entry < length q.dues.items = omega (arith, c.requires, ap length c.self.view_is) in
    let is : at ≡ slice_index q.heap.places.items c.args.entry = get_or_read q.heap.places.items c.args.entry at
    (omega (arith, within, h.parted.entries, h.parted.inverse.same)) c.index-at.ensures 0 in
    record {
      parted = rw c.deref.ensures.value at c.mend.ensures.parted;
      heap = rw c.deref.ensures.value at c.mend.ensures.heap;
      counted = c.mend.ensures.count
          ∙ less_counted rank q.dues.items q.heap.row.items q.heap.places.items q.heap.count h c.args.entry at is within c.if-at-self.true (q.heap.count - 1) (omega arith) c.exchange.new.heap.row.items c.exchange.new.heap.places.items c.exchange.ensures.row c.exchange.ensures.entries c.exchange.ensures.inverse;
    }

pub invariant_of-self-else-at-last : goal.invariant_of-self-else-at-last
invariant_of-self-else-at-last g c =
    let q = c.self.inside in
    let h = c.self.invariant in
    let rank = g.D.Due.rank in
    let at = c.index-at.result.now in
    let within : c.args.entry < length q.dues.items = omega (arith, c.requires, ap length c.self.view_is) in
    let is : at ≡ slice_index q.heap.places.items c.args.entry = get_or_read q.heap.places.items c.args.entry at
    (omega (arith, within, h.parted.entries, h.parted.inverse.same)) c.index-at.ensures 0 in
    record {
      parted = less_parted rank q.dues.items q.heap.row.items q.heap.places.items q.heap.count h c.args.entry at is within c.if-at-self.true (q.heap.count - 1) (omega arith) c.exchange.new.heap.row.items c.exchange.new.heap.places.items c.exchange.ensures.row c.exchange.ensures.entries c.exchange.ensures.inverse;
      heap = less_heap rank q.dues.items q.heap.row.items q.heap.places.items q.heap.count h c.args.entry at is within c.if-at-self.true
          (q.heap.count - 1)
          (omega arith) c.exchange.new.heap.row.items c.exchange.new.heap.places.items c.exchange.ensures.row c.exchange.ensures.entries c.exchange.ensures.inverse c.if-at-last.false;
      counted = less_counted rank q.dues.items q.heap.row.items q.heap.places.items q.heap.count h c.args.entry at is within c.if-at-self.true (q.heap.count - 1) (omega arith) c.exchange.new.heap.row.items c.exchange.new.heap.places.items c.exchange.ensures.row c.exchange.ensures.entries c.exchange.ensures.inverse;
    }

pub returns-then-at-last-clause-cost : goal.returns-then-at-last-clause-cost
returns-then-at-last-clause-cost g c =
    let q = c.self.inside in
    let h = c.self.invariant in
    let after = set q.dues.items c.args.entry None in
    let old : set_count c.args.self.now ≡ q.heap.count = ap (λ ds. set_count ds) (sym c.self.view_is) ∙ sym h.counted in
    let grow = digits_grow (q.heap.count - 1) (max (set_count c.args.self.now) (set_count after)) (omega (arith, old)) in
    omega (arith, grow, c.mend.ensures.cost)

pub returns-else-at-self-clause-dues : goal.returns-else-at-self-clause-dues
returns-else-at-self-clause-dues g c =
    let q = c.self.inside in
    let h = c.self.invariant in
    let rank = g.D.Due.rank in
    let at = c.index-at.result.now in
    let within : c.args.entry < length q.dues.items = omega (arith, c.requires, ap length c.self.view_is) in
    let is : at ≡ slice_index q.heap.places.items c.args.entry = get_or_read q.heap.places.items c.args.entry at
    (omega (arith, within, h.parted.entries, h.parted.inverse.same)) c.index-at.ensures 0 in
    rw (← c.self.view_is) (sym (clear_none q.dues.items c.args.entry
    (entry_unset rank q.dues.items q.heap.row.items q.heap.places.items q.heap.count h c.args.entry at is within c.if-at-self.false)))
