use Rattle.std.proofs.Common.{◌<◌, arith}
use Rattle.std.proofs.lemmas.Nat.{one_shl}
use Rattle.frame_bits.proofs.NumberBits.{cat-below, cat-fits}
use Rattle.frame_bits.proofs.packed.joined.Goals as goal

pub overflow_mul-result : goal.overflow_mul-result
overflow_mul-result c =
    let wide : c.args.low_width < 64 = omega arith in
    let fits = cat-fits c.args.high_width c.args.low_width c.args.high c.args.low c.requires.high c.requires.room in
    rw (one_shl c.args.low_width 64 wide) (omega (arith, fits))

pub overflow_add-result : goal.overflow_add-result
overflow_add-result c =
    let wide : c.args.low_width < 64 = omega arith in
    let fits = cat-fits c.args.high_width c.args.low_width c.args.high c.args.low c.requires.high c.requires.room in
    rw (one_shl c.args.low_width 64 wide, c.from.ensures) (omega (arith, fits))

pub returns-clause-value : goal.returns-clause-value
returns-clause-value c =
    let wide : c.args.low_width < 64 = omega arith in
    rw (one_shl c.args.low_width 64 wide, c.from.ensures)

pub returns-clause-bound : goal.returns-clause-bound
returns-clause-bound c =
    let wide : c.args.low_width < 64 = omega arith in
    rw (one_shl c.args.low_width 64 wide, c.from.ensures)
    (cat-below c.args.high_width c.args.low_width c.args.high c.args.low c.requires.high)
