use Rattle.binding_laws.proofs.Steady.{each_within}
use Rattle.binding_laws.proofs.Counts.{few_functions, all_within}
use Rattle.binding_laws.proofs.calls.each_function_has_a_budget_of_its_own.Goals as goal

pub returns-clause-each : goal.returns-clause-each
returns-clause-each c = each_within

pub returns-clause-few : goal.returns-clause-few
returns-clause-few c = few_functions

pub returns-clause-total : goal.returns-clause-total
returns-clause-total c = all_within
