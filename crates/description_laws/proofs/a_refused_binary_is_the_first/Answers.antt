use Rattle.description_laws.proofs.FirstRefusals.{first_binary}
use Rattle.description_laws.proofs.a_refused_binary_is_the_first.Goals as goal

pub returns : goal.returns
returns c = first_binary
