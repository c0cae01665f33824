use Rattle.wasm_code.proofs.Within.{fault_lies}
use Rattle.wasm_code.proofs.laws.faults_lie_in_their_section.Goals as goal

pub returns : goal.returns
returns c = fault_lies
