use Rattle.world_laws.proofs.Silent.{silent}
use Rattle.world_laws.proofs.runs.who_is_out_is_silent.Goals as goal

pub returns : goal.returns
returns g c = record { silent = silent }
