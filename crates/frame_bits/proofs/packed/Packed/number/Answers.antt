use Rattle.std.proofs.Common.{◌≡◌, ◌∙◌, ap, sym, arith, length}
use Rattle.frame_bits.proofs.NumberBits.{length-number_bits, number_bits-cat}
use Rattle.frame_bits.proofs.packed.Packed.number.Goals as goal

pub joined-self-inside-requires-clause-room : goal.joined-self-inside-requires-clause-room
joined-self-inside-requires-clause-room c =
    let long : length c.args.self.now ≡ c.self.inside.width = ap length (sym c.self.view_is) ∙ length-number_bits c.self.inside.width c.self.inside.value in
    omega arith

pub invariant_of-self : goal.invariant_of-self
invariant_of-self c =
    let long : length c.args.self.now ≡ c.self.inside.width = ap length (sym c.self.view_is) ∙ length-number_bits c.self.inside.width c.self.inside.value in
    (omega arith, c.joined-self-inside.ensures.bound)

pub returns : goal.returns
returns c = rw (c.joined-self-inside.ensures.value, ← c.self.view_is) (number_bits-cat c.self.inside.width c.args.width c.self.inside.value c.args.value)
