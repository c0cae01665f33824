use Rattle.module_specs.proofs.Modules.{module_again}
use Rattle.wasm_writer.specs.ModuleTexts.{module_text}
use Rattle.wasm_writer.proofs.Bodies.{tell}
use Rattle.wasm_writer.proofs.LeastModule.{module_least}
use Rattle.guest_kit.specs.Guests.{guest_module}
use Rattle.guest_kit.proofs.Spelled.{guest_bytes, guest_spelled}
use Rattle.guest_kit.proofs.laws.guests_are_read_back.Goals as goal

pub returns : goal.returns
returns c = λ m answer opening a o.
    module_again tell (guest_module m answer opening) (module_text (guest_module m answer opening))
    ((module_least (guest_module m answer opening)).spelled (guest_bytes m answer opening a o) (guest_spelled m answer opening a o))
