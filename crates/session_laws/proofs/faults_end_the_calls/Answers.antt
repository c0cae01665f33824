use Rattle.session_laws.proofs.Whole.{faults_end_session}
use Rattle.session_laws.proofs.Closing.{faults_end_close}
use Rattle.session_laws.proofs.faults_end_the_calls.Goals as goal

pub returns-clause-session : goal.returns-clause-session
returns-clause-session g c = λ d input s begins. faults_end_session g.E.Ecu.answer g.E.Ecu.phase_of g.met.E.Ecu.moves d input s begins

pub returns-clause-close : goal.returns-clause-close
returns-clause-close g c = λ s stepping. faults_end_close g.E.Ecu.answer g.E.Ecu.phase_of g.met.E.Ecu.moves s stepping
