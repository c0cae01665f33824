use Rattle.wasm_types.proofs.Reading.{code_back}
use Rattle.wasm_types.proofs.Whole.{module_back}
use Rattle.wasm_types.proofs.laws.flat_forms_are_read_back.Goals as goal

pub returns-clause-code : goal.returns-clause-code
returns-clause-code g = code_back

pub returns-clause-module : goal.returns-clause-module
returns-clause-module g = module_back
