use Rattle.bus_images.proofs.Again.{bus-told, bus-again}
use Rattle.bus_images.proofs.what_is_saved_is_made_again.Goals as goal

pub returns-clause-again : goal.returns-clause-again
returns-clause-again c = bus-again

pub returns-clause-told : goal.returns-clause-told
returns-clause-told c = bus-told
