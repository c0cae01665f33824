use Rattle.session_laws.proofs.Changes.{session_changes}
use Rattle.session_laws.proofs.clocks_are_set_ahead.Goals as goal

pub returns-clause-each : goal.returns-clause-each
returns-clause-each g c = λ d input s. (session_changes g.E.Ecu.answer g.E.Ecu.phase_of d input s).each

pub returns-clause-ahead : goal.returns-clause-ahead
returns-clause-ahead g c = λ d input s. (session_changes g.E.Ecu.answer g.E.Ecu.phase_of d input s).ahead
