use Rattle.wasm_memory.proofs.Rows.{halves}
use Rattle.wasm_memory.proofs.words.number_4.Goals as goal

pub returns-clause-value : goal.returns-clause-value
returns-clause-value c = halves _ _ 2 2 _ _ c.requires c.number_2.ensures.value c.number_2-2.ensures.value
