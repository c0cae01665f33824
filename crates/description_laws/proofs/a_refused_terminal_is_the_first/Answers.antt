use Rattle.description_laws.proofs.FirstRefusals.{first_terminal}
use Rattle.description_laws.proofs.a_refused_terminal_is_the_first.Goals as goal

pub returns : goal.returns
returns c = first_terminal
