use Rattle.log_laws.proofs.Endings.{ends-with, goes-on}
use Rattle.log_laws.proofs.EventCount.{end-tells}
use Rattle.log_laws.proofs.each_log_ends_with_its_status.Goals as goal

pub returns-clause-ends : goal.returns-clause-ends
returns-clause-ends c budget p h = ends-with p budget h

pub returns-clause-goes_on : goal.returns-clause-goes_on
returns-clause-goes_on c budget more p = goes-on p budget more

pub returns-clause-events : goal.returns-clause-events
returns-clause-events c budget p h b bit = end-tells p bit budget h b
