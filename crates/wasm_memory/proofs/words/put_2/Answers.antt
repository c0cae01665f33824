use Rattle.wasm_memory.proofs.Rows.{put_halves}
use Rattle.wasm_memory.proofs.words.put_2.Goals as goal

pub returns : goal.returns
returns c = put_halves _ _ _ _ 1 1 c.args.n c.requires c.put_1.ensures c.put_1-2.ensures
