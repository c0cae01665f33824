use Rattle.session_laws.proofs.Whole.{calls_run}
use Rattle.session_laws.proofs.each_call_is_permitted.Goals as goal

pub returns : goal.returns
returns g c = λ d input s begins. calls_run g.E.Ecu.answer g.E.Ecu.phase_of g.met.E.Ecu.moves d input s begins
