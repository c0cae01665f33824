use Rattle.std.specs.Int.Signed.{mag}
use Rattle.wasm_writer.proofs.numbers.+signed_len.Given as goal

abbrev pub decreases-signed_len : goal.decreases-signed_len
decreases-signed_len l = mag l.v
