use Rattle.wasm_types.proofs.Spelled.{plain_code, plain_module}
use Rattle.wasm_types.proofs.laws.spellable_leaves_are_plain.Goals as goal

pub returns-clause-code : goal.returns-clause-code
returns-clause-code g = plain_code

pub returns-clause-module : goal.returns-clause-module
returns-clause-module g = plain_module
