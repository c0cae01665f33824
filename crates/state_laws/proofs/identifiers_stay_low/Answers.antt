use Rattle.state_laws.proofs.Moments.{all-below}
use Rattle.state_laws.proofs.identifiers_stay_low.Goals as goal

pub returns : goal.returns
returns g c = record { below = λ u p states k fit plan. all-below u fit p plan states k }
