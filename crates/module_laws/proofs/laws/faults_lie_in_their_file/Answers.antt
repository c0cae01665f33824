use Rattle.module_laws.proofs.Overlong.{lie, of_bytes}
use Rattle.module_laws.proofs.laws.faults_lie_in_their_file.Goals as goal

pub returns-clause-place : goal.returns-clause-place
returns-clause-place c = lie

pub returns-clause-of_bytes : goal.returns-clause-of_bytes
returns-clause-of_bytes c = of_bytes
