use Rattle.std.proofs.Common.{arith, rules, ◌≡◌}
use Rattle.can_frame.proofs.HexText.{encode_lower-hex_bytes, all_bytes}
use Rattle.hex.specs.Hex.{encode_lower}
use Rattle.frame_specs.specs.FrameText.{hex_bytes}
use Rattle.can_frame.proofs.hexadecimal.digits.Goals as goal

pub returns : goal.returns
returns c =
    let same : encode_lower c.args.bytes.now ≡ hex_bytes c.args.bytes.now = encode_lower-hex_bytes c.args.bytes.now (all_bytes c.args.bytes.now (λ i. omega (arith, c.type_inv.bytes i))) in
    search (rules, same)
