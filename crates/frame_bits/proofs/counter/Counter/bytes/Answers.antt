use Rattle.std.proofs.Common.{rules, ◌+◌, ◌++◌, ◌∙◌, drop, append_assoc, arith}
use Rattle.frame_specs.specs.Bits.{number_bits, bytes_bits}
use Rattle.frame_bits.proofs.NumberBits.{bytes_bits-drop}
use Rattle.frame_bits.proofs.counter.Counter.bytes.Goals as goal

pub loop-byte-preserved : goal.loop-byte-preserved
loop-byte-preserved c =
    let cut = bytes_bits-drop c.args.bytes.now c.loop-byte.byte-index c.from.result c.loop-byte-test.true (search rules) in
    record {
      took = λ bits h.
          let i = c.loop-byte.invariant.took bits h in (
            i.0 ++ number_bits 8 c.from.result,
            c.number.ensures.took i.0 i.1,
            append_assoc i.0 (number_bits 8 c.from.result) (bytes_bits (drop (c.loop-byte.byte-index + 1) c.args.bytes.now)) ∙ (rw cut at i.2),
          );
      bound = omega arith;
      grows = omega arith;
    }
