use Rattle.std.proofs.Common.{sym, ◌∙◌, arith}
use Rattle.plain_text.proofs.Digits.{digit_over}
use Rattle.plain_text.proofs.numbers.digits.Goals as goal

pub returns-then-next-from-clause-value : goal.returns-then-next-from-clause-value
returns-then-next-from-clause-value c =
    sym (digit_over c.args.low c.args.high c.loop-byte.value c.loop-byte.byte-index c.args.text.now (omega arith) (omega arith)) ∙ c.loop-byte.invariant.whole
