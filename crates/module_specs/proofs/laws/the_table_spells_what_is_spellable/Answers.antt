use Rattle.module_specs.proofs.Spellable.{instr_fits, instr_text}
use Rattle.module_specs.proofs.laws.the_table_spells_what_is_spellable.Goals as goal

pub returns-clause-no_other : goal.returns-clause-no_other
returns-clause-no_other c = instr_fits

pub returns-clause-each : goal.returns-clause-each
returns-clause-each c = instr_text
