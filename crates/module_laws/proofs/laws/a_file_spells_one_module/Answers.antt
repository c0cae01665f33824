use Rattle.module_laws.proofs.Determined.{one_module}
use Rattle.module_laws.proofs.laws.a_file_spells_one_module.Goals as goal

pub returns : goal.returns
returns c = record { one = one_module }
