use Rattle.std.proofs.Common.{◌≡◌, ◌+◌, ◌++◌, [], ◌∷◌, length, length-append, append_assoc, max, sym, ap, ◌∙◌, arith, rules}
use Rattle.clock_queue.specs.Cost.{set_count, binary_digits}
use Rattle.clock_queue.proofs.Digits.{digits_grow, cost_more, cost_all}
use Rattle.clock_queue.proofs.Sets.{set_less}
use Rattle.clock_queue.proofs.queue.Queue.take_due.Goals as goal

pub loop-entry-smaller : goal.loop-entry-smaller
loop-entry-smaller g c =
    let less = set_less c.loop-entry.self c.in-Some.entry c.in-Some.ensures.next.is_set in
    let same = ap (λ ds. set_count ds) c.clear.ensures.dues in
    omega (arith, less, same)

pub loop-entry-preserved : goal.loop-entry-preserved
loop-entry-preserved g c =
    let l = c.loop-entry in
    let entry = c.in-Some.entry in
    let next = c.in-Some.ensures.next in
    let rank = g.D.Due.rank in
    let moment = rank c.args.moment.now in
    let less = set_less l.self entry next.is_set in
    let same = ap (λ ds. set_count ds) c.clear.ensures.dues in
    let items : c.push.new.self.items ≡ l.due.items ++ entry ∷ [] = search rules in
    let longer : length c.push.new.self.items ≡ length l.due.items + 1 = ap length items ∙ length-append l.due.items (entry ∷ []) in
    let grow = digits_grow (max (set_count l.self) (set_count c.clear.new.self)) (set_count c.args.self.now)
    (omega (arith, less, same, l.invariant.counted)) in
    record {
      early = rw c.clear.ensures.dues next.early;
      due = rw (items, c.clear.ensures.dues)
          (append_assoc l.due.items (entry ∷ []) _ ∙ (ap (λ xs. l.due.items ++ xs) (sym next.first) ∙ l.invariant.due));
      left = rw c.clear.ensures.dues (next.left ∙ l.invariant.left);
      counted = omega (arith, less, same, longer, l.invariant.counted);
      room = omega (arith, l.invariant.room, c.push.ensures.capacity);
      later = omega arith;
      cost = cost_more (length l.due.items) (length c.push.new.self.items) (binary_digits (set_count c.args.self.now))
          (binary_digits (max (set_count l.self) (set_count c.clear.new.self)))
          (g.J.Judge.count c.args.judge.now) (g.J.Judge.count l.judge) (g.J.Judge.count c.next_due.new.judge)
          (g.J.Judge.count c.clear.new.judge)
          longer l.invariant.cost c.next_due.ensures.cost c.clear.ensures.cost grow;
    }

pub returns-clause-cost : goal.returns-clause-cost
returns-clause-cost g c =
    let l = c.loop-entry in
    let all = cost_all (length l.due.items) (binary_digits (set_count c.args.self.now)) in
    let long : length c.of.result ≡ length l.due.items = ap length c.of.ensures in
    rw long (omega (arith, all, l.invariant.cost, c.next_due.ensures.cost))
