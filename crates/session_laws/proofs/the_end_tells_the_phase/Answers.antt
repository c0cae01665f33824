use Rattle.session_laws.proofs.Whole.{stands}
use Rattle.session_laws.proofs.Closing.{close_stands}
use Rattle.session_laws.proofs.the_end_tells_the_phase.Goals as goal

pub returns-clause-session : goal.returns-clause-session
returns-clause-session g c = λ d input s begins. stands g.E.Ecu.answer g.E.Ecu.phase_of g.met.E.Ecu.moves d input s begins

pub returns-clause-close : goal.returns-clause-close
returns-clause-close g c = λ s stepping. close_stands g.E.Ecu.answer g.E.Ecu.phase_of g.met.E.Ecu.moves s stepping
