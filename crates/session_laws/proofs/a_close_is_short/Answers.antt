use Rattle.session_laws.proofs.Closing.{close_run, close_few}
use Rattle.session_laws.proofs.a_close_is_short.Goals as goal

pub returns-clause-run : goal.returns-clause-run
returns-clause-run g c = λ s stepping. close_run g.E.Ecu.answer g.E.Ecu.phase_of g.met.E.Ecu.moves s stepping

pub returns-clause-few : goal.returns-clause-few
returns-clause-few g c = λ s stepping. close_few g.E.Ecu.answer g.E.Ecu.phase_of g.met.E.Ecu.moves s stepping
