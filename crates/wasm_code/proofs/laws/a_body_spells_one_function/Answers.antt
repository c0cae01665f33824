use Rattle.wasm_code.proofs.Whole.{one_function}
use Rattle.wasm_code.proofs.laws.a_body_spells_one_function.Goals as goal

pub returns : goal.returns
returns c = one_function
