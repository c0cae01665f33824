use Rattle.std.proofs.Common.{sym, arith}
use Rattle.wasm_writer.proofs.NumberSizes.{unsigned_most, unsigned_length_one, unsigned_length_more}
use Rattle.wasm_writer.proofs.numbers.+number_len.Goals as goal

pub returns-then-n-lt128-clause-is : goal.returns-then-n-lt128-clause-is
returns-then-n-lt128-clause-is t c = sym (unsigned_length_one c.args.n c.if-n-lt128.true)

pub returns-clause-is : goal.returns-clause-is
returns-clause-is t c =
    let text = unsigned_length_more c.args.n c.ranges.n.fits c.if-n-lt128.false in
    omega (arith, text, c.number_len.ensures.is)

pub returns-clause-few : goal.returns-clause-few
returns-clause-few t c =
    let text = unsigned_length_more c.args.n c.ranges.n.fits c.if-n-lt128.false in
    omega (arith, text, unsigned_most c.args.n, c.number_len.ensures.is)
