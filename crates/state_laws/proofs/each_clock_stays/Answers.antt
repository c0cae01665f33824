use Rattle.state_laws.proofs.Planned.{units-each, clocked-along}
use Rattle.state_laws.proofs.each_clock_stays.Goals as goal

pub returns-clause-units : goal.returns-clause-units
returns-clause-units g c = units-each

pub returns-clause-along : goal.returns-clause-along
returns-clause-along g c = clocked-along
