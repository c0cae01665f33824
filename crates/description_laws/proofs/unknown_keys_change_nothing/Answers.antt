use Rattle.description_laws.proofs.SameKeys.{told_the_same}
use Rattle.description_laws.proofs.unknown_keys_change_nothing.Goals as goal

pub returns : goal.returns
returns c = told_the_same
