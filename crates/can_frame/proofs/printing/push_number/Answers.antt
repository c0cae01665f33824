use Rattle.std.proofs.Common.{◌-◌, arith}
use Rattle.can_frame.proofs.Places.{digit_printed}
use Rattle.can_frame.proofs.printing.push_number.Goals as goal

pub loop-left-preserved : goal.loop-left-preserved
loop-left-preserved c =
    let left = c.loop-left.left in record {
      whole = digit_printed c.loop-left.text.items _ _ c.args.number (left - 1) left c.hex_digit.result
          c.in_ok-push.ensures.items
          c.hex_digit.ensures
          (omega arith)
          c.loop-left.invariant.whole;
      within = omega arith;
    }
