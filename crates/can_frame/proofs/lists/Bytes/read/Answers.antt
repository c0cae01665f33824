use Rattle.std.proofs.Common.{◌≡◌, ◌∙◌, sym, ap, Some, Err, inl, inr}
use Rattle.can_frame.proofs.HexText.{decode_of-bytes_of, upper_read, ok_of}
use Rattle.hex.specs.Hex.{decode_of}
use Rattle.can_frame.proofs.lists.Bytes.read.Goals as goal

pub returns-then-has_upper : goal.returns-then-has_upper
returns-then-has_upper c = sym (upper_read c.args.text.now (sym c.has_upper.ensures ∙ c.if-has_upper.true))

pub returns-in-Ok : goal.returns-in-Ok
returns-in-Ok c =
    ap Some c.of.ensures
    ∙ sym (ap ok_of c.in-Ok.ensures.ok)
    ∙ decode_of-bytes_of c.args.text.now (sym c.has_upper.ensures ∙ c.if-has_upper.false)

pub returns-in_default : goal.returns-in_default
returns-in_default c =
    let told : decode_of c.args.text.now ≡ Err c.in-Err.error = elim c.in-Err.ensures.err [
      | inl memory ↦ absurd (c.in_default.not-OutOfMemory memory)
      | inr told ↦ told
    ] in
    sym (ap ok_of told) ∙ decode_of-bytes_of c.args.text.now (sym c.has_upper.ensures ∙ c.if-has_upper.false)
