use Rattle.saved_laws.proofs.Example.{two-fit}
use Rattle.saved_laws.proofs.runs.the_laws_have_cases.Goals as goal

pub returns : goal.returns
returns c = record { fits = two-fit }
