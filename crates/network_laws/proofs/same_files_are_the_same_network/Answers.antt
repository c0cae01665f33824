use Rattle.network_laws.proofs.Renamed.{renamed}
use Rattle.network_laws.proofs.same_files_are_the_same_network.Goals as goal

pub returns : goal.returns
returns g c = renamed
