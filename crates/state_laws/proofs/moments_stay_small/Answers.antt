use Rattle.state_laws.proofs.Moments.{bounded-along, all-by}
use Rattle.state_laws.proofs.moments_stay_small.Goals as goal

pub returns-clause-bounded : goal.returns-clause-bounded
returns-clause-bounded g c = λ u p states k fit plan. bounded-along u fit p plan states k

pub returns-clause-by : goal.returns-clause-by
returns-clause-by g c = λ u p states k fit sets plan. all-by u sets p plan states fit k
