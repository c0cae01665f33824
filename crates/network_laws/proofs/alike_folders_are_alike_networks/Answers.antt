use Rattle.network_laws.proofs.AlikeFolders.{alike}
use Rattle.network_laws.proofs.alike_folders_are_alike_networks.Goals as goal

pub returns : goal.returns
returns g c = alike
