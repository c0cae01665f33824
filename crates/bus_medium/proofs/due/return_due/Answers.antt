use Rattle.std.proofs.Common.{arith, ◌≤◌, ◌*◌, ◌^◌}
use Rattle.bus_medium.proofs.FirstDue.{some_ticks}
use Rattle.bus_medium.proofs.due.return_due.Goals as goal

pub overflow_mul-result : goal.overflow_mul-result
overflow_mul-result c =
    let few : c.saturating_sub.result ≤ 128 = omega arith in
    let span : c.bits.result ≤ 11 * 10 ^ 12 = omega arith in
    let all = some_ticks c.saturating_sub.result c.bits.result few span in
    omega (arith, all)

pub overflow_add-result : goal.overflow_add-result
overflow_add-result c =
    let few : c.saturating_sub.result ≤ 128 = omega arith in
    let span : c.bits.result ≤ 11 * 10 ^ 12 = omega arith in
    let all = some_ticks c.saturating_sub.result c.bits.result few span in
    omega (arith, all)
