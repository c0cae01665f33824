use Rattle.frame_laws.proofs.Checksum.{nothing, nothing-received}
use Rattle.frame_laws.proofs.the_crc_leaves_nothing.Goals as goal

pub returns-clause-nothing : goal.returns-clause-nothing
returns-clause-nothing c = nothing

pub returns-clause-received : goal.returns-clause-received
returns-clause-received c = nothing-received
