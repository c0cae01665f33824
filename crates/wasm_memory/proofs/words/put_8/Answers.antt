use Rattle.wasm_memory.proofs.Rows.{put_halves}
use Rattle.wasm_memory.proofs.words.put_8.Goals as goal

pub returns : goal.returns
returns c = put_halves _ _ _ _ 4 4 c.args.n c.requires c.put_4.ensures c.put_4-2.ensures
