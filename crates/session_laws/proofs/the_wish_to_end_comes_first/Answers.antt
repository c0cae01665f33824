use Rattle.session_laws.proofs.Whole.{over, live}
use Rattle.session_laws.proofs.the_wish_to_end_comes_first.Goals as goal

pub returns-clause-over : goal.returns-clause-over
returns-clause-over g c = λ d input s begins e. over g.E.Ecu.answer g.E.Ecu.phase_of g.met.E.Ecu.moves d input s begins e

pub returns-clause-live : goal.returns-clause-live
returns-clause-live g c = λ d input s begins e. live g.E.Ecu.answer g.E.Ecu.phase_of g.met.E.Ecu.moves d input s begins e
