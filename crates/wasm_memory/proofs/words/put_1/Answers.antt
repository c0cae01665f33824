use Rattle.std.proofs.Common.{arith}
use Rattle.wasm_memory.proofs.Rows.{byte_put}
use Rattle.wasm_memory.proofs.words.put_1.Goals as goal

pub returns : goal.returns
returns c = byte_put _ _ c.args.n (omega (arith, c.requires))
