use Rattle.wasm_memory.proofs.Rows.{halves}
use Rattle.wasm_memory.proofs.words.number_2.Goals as goal

pub returns-clause-value : goal.returns-clause-value
returns-clause-value c = halves _ _ 1 1 _ _ c.requires c.number_1.ensures.value c.number_1-2.ensures.value
