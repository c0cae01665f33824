use Rattle.module_laws.proofs.Staying.{stay}
use Rattle.module_laws.proofs.laws.faults_stay_with_their_section.Goals as goal

pub returns : goal.returns
returns c = record { stay = stay }
