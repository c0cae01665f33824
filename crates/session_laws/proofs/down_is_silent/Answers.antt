use Rattle.session_laws.proofs.Downs.{silent}
use Rattle.session_laws.proofs.down_is_silent.Goals as goal

pub returns : goal.returns
returns g c = λ d input s why e. silent g.E.Ecu.answer g.E.Ecu.phase_of d input s why e
