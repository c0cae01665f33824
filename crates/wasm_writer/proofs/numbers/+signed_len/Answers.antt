use Rattle.std.proofs.Common.{◌≡◌, true, false, sym, arith}
use Rattle.std.proofs.lemmas.Int.{ints, to_z-of_z}
use Rattle.leb_bytes.specs.Spelling.{FitsBits}
use Rattle.leb_bytes.specs.Writing.{is_narrow_signed}
use Rattle.wasm_writer.proofs.NumberSizes.{signed_most, signed_length_one, signed_length_more}
use Rattle.wasm_writer.proofs.numbers.+signed_len.Goals as goal

pub returns-then-is_narrow-clause-is : goal.returns-then-is_narrow-clause-is
returns-then-is_narrow-clause-is t c =
    let narrow : is_narrow_signed c.args.v ≡ true = grind (arith, to_z-of_z) in
    sym (signed_length_one c.args.v narrow)

pub returns-clause-is : goal.returns-clause-is
returns-clause-is t c =
    let fits : FitsBits 64 c.args.v = (omega (arith, ints), omega (arith, ints)) in
    let wide : is_narrow_signed c.args.v ≡ false = grind (arith, to_z-of_z) in
    let text = signed_length_more c.args.v fits wide in
    grind (arith, to_z-of_z)

pub returns-clause-few : goal.returns-clause-few
returns-clause-few t c =
    let fits : FitsBits 64 c.args.v = (omega (arith, ints), omega (arith, ints)) in
    let wide : is_narrow_signed c.args.v ≡ false = grind (arith, to_z-of_z) in
    let text = signed_length_more c.args.v fits wide in
    let most = signed_most c.args.v in
    grind (arith, to_z-of_z)
