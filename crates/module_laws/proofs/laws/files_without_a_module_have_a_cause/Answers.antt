use Rattle.module_laws.proofs.Causes.{unless_cause}
use Rattle.module_laws.proofs.laws.files_without_a_module_have_a_cause.Goals as goal

pub returns : goal.returns
returns c = record { cause = unless_cause }
