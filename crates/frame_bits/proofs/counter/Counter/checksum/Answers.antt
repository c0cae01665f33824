use Rattle.std.proofs.Common.{◌∙◌}
use Rattle.frame_specs.specs.Bits.{number_bits}
use Rattle.frame_bits.proofs.Stuffing.{length-stuff_crc}
use Rattle.frame_bits.proofs.counter.Counter.checksum.Goals as goal

pub returns-clause-count : goal.returns-clause-count
returns-clause-count c = λ bits took.
    let whole = c.number.ensures.took bits took in
    let counts = c.settle.ensures.counts _ whole.counts in
    length-stuff_crc (number_bits 15) bits c.settle.new.self.count c.from.result (c.from.ensures ∙ took.crc_is) counts.count_is
