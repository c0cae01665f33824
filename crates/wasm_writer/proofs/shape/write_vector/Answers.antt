use Rattle.std.proofs.Common.{length, length-append, arith}
use Rattle.leb_bytes.specs.Writing.{unsigned_text}
use Rattle.wasm_writer.specs.Texts.{each_text}
use Rattle.wasm_writer.proofs.Loops.{each_text-longer}
use Rattle.wasm_writer.proofs.shape.write_vector.Goals as goal

pub write_number-requires : goal.write_number-requires
write_number-requires g c =
    let xs = c.args.items.now in
    let text = g.S.Shape.text in
    omega (arith, each_text-longer text g.met.S.Shape.takes_bytes xs, length-append (unsigned_text (length xs)) (each_text text xs), c.requires.small)
