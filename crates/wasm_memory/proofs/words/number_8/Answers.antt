use Rattle.wasm_memory.proofs.Rows.{halves}
use Rattle.wasm_memory.proofs.words.number_8.Goals as goal

pub returns : goal.returns
returns c = halves _ _ 4 4 _ _ c.requires c.number_4.ensures.value c.number_4-2.ensures.value
