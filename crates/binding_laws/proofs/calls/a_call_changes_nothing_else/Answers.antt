use Rattle.binding_laws.proofs.Steady.{same_code, same_description, same_budget, no_fewer_bytes}
use Rattle.binding_laws.proofs.calls.a_call_changes_nothing_else.Goals as goal

pub returns-clause-code : goal.returns-clause-code
returns-clause-code c = same_code

pub returns-clause-description : goal.returns-clause-description
returns-clause-description c = same_description

pub returns-clause-budget : goal.returns-clause-budget
returns-clause-budget c = same_budget

pub returns-clause-memory : goal.returns-clause-memory
returns-clause-memory c = no_fewer_bytes
