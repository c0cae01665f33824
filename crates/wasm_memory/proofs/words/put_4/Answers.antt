use Rattle.wasm_memory.proofs.Rows.{put_halves}
use Rattle.wasm_memory.proofs.words.put_4.Goals as goal

pub returns : goal.returns
returns c = put_halves _ _ _ _ 2 2 c.args.n c.requires c.put_2.ensures c.put_2-2.ensures
