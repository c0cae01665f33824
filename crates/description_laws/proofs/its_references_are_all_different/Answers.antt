use Rattle.description_laws.proofs.References.{references_different}
use Rattle.description_laws.proofs.its_references_are_all_different.Goals as goal

pub returns : goal.returns
returns c = references_different
