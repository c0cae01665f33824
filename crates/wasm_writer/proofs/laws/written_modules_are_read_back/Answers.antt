use Rattle.module_specs.proofs.Modules.{module_again}
use Rattle.wasm_writer.specs.ModuleTexts.{module_text}
use Rattle.wasm_writer.proofs.Bodies.{tell}
use Rattle.wasm_writer.proofs.LeastModule.{module_least}
use Rattle.wasm_writer.proofs.laws.written_modules_are_read_back.Goals as goal

pub returns : goal.returns
returns c = λ m bytes s. module_again tell m (module_text m) ((module_least m).spelled bytes s)
