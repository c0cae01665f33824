use Rattle.module_specs.proofs.Spellable.{leaves_fit}
use Rattle.module_specs.proofs.SpellableParts.{module_fits}
use Rattle.module_specs.proofs.laws.spelled_parts_are_spellable.Goals as goal

pub returns-clause-code : goal.returns-clause-code
returns-clause-code c = λ room code text s. leaves_fit code room text s

pub returns-clause-module : goal.returns-clause-module
returns-clause-module c = module_fits
