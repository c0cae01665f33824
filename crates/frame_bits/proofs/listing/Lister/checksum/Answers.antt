use Rattle.std.proofs.Common.{◌∙◌}
use Rattle.frame_specs.specs.Bits.{number_bits}
use Rattle.frame_bits.proofs.Stuffing.{listed-crc}
use Rattle.frame_bits.proofs.listing.Lister.checksum.Goals as goal

pub returns : goal.returns
returns c = λ bits h.
    let whole = c.in_ok-number.ensures.lists bits h in
    listed-crc (number_bits 15) _ _ bits c.from.result c.due.result (c.from.ensures ∙ c.crc-crc.ensures ∙ h.took.crc_is) whole.list_is (c.due.ensures _ whole.took.counts) c.in_ok-push_due.ensures
