use Rattle.std.proofs.Common.{◌<◌, ℕ, get_or, arith}
use Rattle.bus_log.proofs.Fitting.{all_below-each}
use Rattle.bus_log.proofs.laws.bytes_fit.Goals as goal

pub returns : goal.returns
returns c =
    let each = λ (i : ℕ). let h : get_or c.args.bytes.now i 0 < 256 = omega (arith, c.type_inv.bytes i) in h in
    all_below-each 256 c.args.bytes.now each
