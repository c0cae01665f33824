use Rattle.guest_laws.proofs.Fresh.{fresh-begins}
use Rattle.guest_laws.proofs.Accepted.{module-begins}
use Rattle.guest_laws.proofs.calls.fresh_guests_begin.Goals as goal

pub returns-clause-begins : goal.returns-clause-begins
returns-clause-begins c = fresh-begins

pub returns-clause-module : goal.returns-clause-module
returns-clause-module c = module-begins
