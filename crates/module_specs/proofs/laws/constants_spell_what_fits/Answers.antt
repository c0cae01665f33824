use Rattle.module_specs.proofs.SpellableParts.{constant_fits, constant_text}
use Rattle.module_specs.proofs.laws.constants_spell_what_fits.Goals as goal

pub returns-clause-no_other : goal.returns-clause-no_other
returns-clause-no_other c = constant_fits

pub returns-clause-each : goal.returns-clause-each
returns-clause-each c = constant_text
