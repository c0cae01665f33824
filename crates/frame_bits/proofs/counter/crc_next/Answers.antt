use Rattle.std.proofs.Common.{◌<◌, ◌*◌, ◌%◌, lit<, arith}
use Rattle.std.proofs.lemmas.Nat.{xor_lt}
use Rattle.frame_bits.proofs.counter.crc_next.Goals as goal

pub returns-else-crc-bit-clause-bound : goal.returns-else-crc-bit-clause-bound
returns-else-crc-bit-clause-bound c =
    let small : (2 * c.args.crc) % 32768 < 32768 = omega arith in
    xor_lt 15 ((2 * c.args.crc) % 32768) 17817 small (lit< tt)
