use Rattle.network_laws.proofs.SameFiles.{told_the_same}
use Rattle.network_laws.proofs.unknown_keys_change_nothing.Goals as goal

pub returns : goal.returns
returns c = told_the_same
