use Rattle.std.proofs.Common.{◌≡◌, ◌-◌, ◌∷◌, ◌++◌, [], ◌∙◌, sym, subst, append_assoc, arith}
use Rattle.std.proofs.lemmas.List.{append-nil}
use Rattle.frame_specs.specs.Bits.{bit, number_bits}
use Rattle.frame_bits.specs.Listing.{Lists}
use Rattle.frame_bits.proofs.NumberBits.{number_bits-front}
use Rattle.frame_bits.proofs.listing.Lister.number.Goals as goal

pub loop-left-preserved : goal.loop-left-preserved
loop-left-preserved c =
    let front = number_bits-front c.loop-left.left c.args.value c.loop-left-test.true in
    let b = bit c.args.value (c.loop-left.left - 1) in
    let grew = c.in_ok-bit.ensures.grew in
    record {
      lists = λ bits h.
          let i = c.loop-left.invariant.lists bits h in (
            i.0 ++ b ∷ [],
            c.in_ok-bit.ensures.lists i.0 i.1,
            append_assoc i.0 (b ∷ []) (number_bits (c.loop-left.left - 1) c.args.value) ∙ (rw front at i.2),
          );
      left = omega arith;
      bound = omega (arith, grew);
      grows = omega (arith, grew);
    }

pub returns-clause-lists : goal.returns-clause-lists
returns-clause-lists c = λ bits h.
    let i = c.loop-left.invariant.lists bits h in
    let none : c.loop-left.left ≡ 0 = omega arith in
    subst (Lists c.loop-left.self) (sym (append-nil i.0) ∙ (rw none at i.2)) i.1
