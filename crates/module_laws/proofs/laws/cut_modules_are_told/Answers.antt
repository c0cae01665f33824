use Rattle.module_laws.proofs.Cutting.{each, refuses_inside, are_modules, are_counted}
use Rattle.module_laws.proofs.laws.cut_modules_are_told.Goals as goal

pub returns-clause-each : goal.returns-clause-each
returns-clause-each c = each

pub returns-clause-inside : goal.returns-clause-inside
returns-clause-inside c = refuses_inside

pub returns-clause-behind : goal.returns-clause-behind
returns-clause-behind c = are_modules

pub returns-clause-counted : goal.returns-clause-counted
returns-clause-counted c = are_counted
