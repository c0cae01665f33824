use Rattle.bus_images.proofs.Again.{bus-saved, bus-nodes}
use Rattle.bus_images.proofs.what_is_made_is_saved.Goals as goal

pub returns-clause-image : goal.returns-clause-image
returns-clause-image c = bus-saved

pub returns-clause-nodes : goal.returns-clause-nodes
returns-clause-nodes c = bus-nodes
