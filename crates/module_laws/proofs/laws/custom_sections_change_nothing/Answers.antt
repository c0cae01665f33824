use Rattle.module_laws.proofs.Customs.{ignored}
use Rattle.module_laws.proofs.laws.custom_sections_change_nothing.Goals as goal

pub returns : goal.returns
returns c = record { same = ignored }
