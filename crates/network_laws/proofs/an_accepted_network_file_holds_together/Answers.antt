use Rattle.network_laws.proofs.ScriptInRange.{file_ranged}
use Rattle.network_laws.proofs.an_accepted_network_file_holds_together.Goals as goal

pub returns : goal.returns
returns c = file_ranged
