use Rattle.description_laws.proofs.FirstRefusals.{first_clock}
use Rattle.description_laws.proofs.a_refused_clock_is_the_first.Goals as goal

pub returns : goal.returns
returns c = first_clock
