use Rattle.description_laws.proofs.InRange.{description_ranged}
use Rattle.description_laws.proofs.its_numbers_lie_in_their_ranges.Goals as goal

pub returns : goal.returns
returns c = description_ranged
