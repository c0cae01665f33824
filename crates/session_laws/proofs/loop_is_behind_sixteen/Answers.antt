use Rattle.session_laws.proofs.Whole.{loop}
use Rattle.session_laws.proofs.loop_is_behind_sixteen.Goals as goal

pub returns : goal.returns
returns g c = λ d input s begins. loop g.E.Ecu.answer g.E.Ecu.phase_of g.met.E.Ecu.moves d input s begins
