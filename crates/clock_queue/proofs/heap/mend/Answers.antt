use Rattle.std.proofs.Common.{◌+◌, arith}
use Rattle.clock_queue.proofs.Digits.{digits_grow, digits_some}
use Rattle.clock_queue.proofs.heap.mend.Goals as goal

pub returns-then-rise-at-clause-cost : goal.returns-then-rise-at-clause-cost
returns-then-rise-at-clause-cost g c =
    let up = rw c.if-rise-at.true at c.rise.ensures.cost in
    let down = rw c.rise.ensures.count at c.sink.ensures.cost in
    let some = digits_some (c.args.at + 1) (omega arith) in
    omega (arith, up, down, some)

pub returns-else-rise-at-clause-cost : goal.returns-else-rise-at-clause-cost
returns-else-rise-at-clause-cost g c =
    let some = digits_some (c.rise.result + 1) (omega arith) in
    let grow = digits_grow (c.args.at + 1) c.args.heap.now.count (omega arith) in
    omega (arith, some, grow)
