use Rattle.code_laws.proofs.Steady.{uses, less_is_not_enough}
use Rattle.code_laws.proofs.spent_fuel.calls_that_end_use_the_same_fuel.Goals as goal

pub returns-clause-same : goal.returns-clause-same
returns-clause-same c = uses

pub returns-clause-less : goal.returns-clause-less
returns-clause-less c = less_is_not_enough
