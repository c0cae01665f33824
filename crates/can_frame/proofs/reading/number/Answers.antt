use Rattle.std.proofs.Common.{arith}
use Rattle.can_frame.proofs.Places.{room_for_digit}
use Rattle.can_frame.proofs.reading.number.Goals as goal

pub overflow_mul-value : goal.overflow_mul-value
overflow_mul-value c =
    let small = room_for_digit c.loop-byte.value c.loop-byte.byte-index c.loop-byte.invariant.small (omega arith) in
    omega (arith, small)

pub overflow_add-value : goal.overflow_add-value
overflow_add-value c =
    let small = room_for_digit c.loop-byte.value c.loop-byte.byte-index c.loop-byte.invariant.small (omega arith) in
    grind (arith, small)
