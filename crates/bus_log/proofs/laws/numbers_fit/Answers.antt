use Rattle.std.proofs.Common.{◌<◌, ◌^◌, ℕ, get_or, arith}
use Rattle.bus_log.proofs.Fitting.{all_below-each}
use Rattle.bus_log.proofs.laws.numbers_fit.Goals as goal

pub returns : goal.returns
returns c =
    let each = λ (i : ℕ). let h : get_or c.args.numbers.now i 0 < 2 ^ 32 = omega (arith, c.type_inv.numbers i) in h in
    all_below-each (2 ^ 32) c.args.numbers.now each
