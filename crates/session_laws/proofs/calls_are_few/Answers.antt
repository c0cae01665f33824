use Rattle.session_laws.proofs.Whole.{few}
use Rattle.session_laws.proofs.calls_are_few.Goals as goal

pub returns : goal.returns
returns g c = λ d input s begins ticks clocks. few g.E.Ecu.answer g.E.Ecu.phase_of g.met.E.Ecu.moves d input s begins ticks clocks
