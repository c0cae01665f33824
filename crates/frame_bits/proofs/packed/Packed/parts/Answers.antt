use Rattle.std.proofs.Common.{length, ap, sym, ◌∙◌}
use Rattle.frame_bits.proofs.NumberBits.{length-number_bits}
use Rattle.frame_bits.proofs.packed.Packed.parts.Goals as goal

pub returns-clause-width : goal.returns-clause-width
returns-clause-width c = sym (ap length (sym c.self.view_is) ∙ length-number_bits c.self.inside.width c.self.inside.value)
