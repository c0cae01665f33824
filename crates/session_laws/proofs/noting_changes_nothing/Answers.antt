use Rattle.session_laws.proofs.Whole.{alike}
use Rattle.session_laws.proofs.noting_changes_nothing.Goals as goal

pub returns : goal.returns
returns g c = λ d input s begins. alike g.E.Ecu.answer g.E.Ecu.phase_of g.met.E.Ecu.moves d input s begins
