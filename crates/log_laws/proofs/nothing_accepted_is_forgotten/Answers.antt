use Rattle.log_laws.proofs.Balance.{nothing-forgotten}
use Rattle.log_laws.proofs.Left.{nothing-left}
use Rattle.log_laws.proofs.nothing_accepted_is_forgotten.Goals as goal

pub returns-clause-balance : goal.returns-clause-balance
returns-clause-balance c = nothing-forgotten

pub returns-clause-left : goal.returns-clause-left
returns-clause-left c budget p h = nothing-left p budget h
