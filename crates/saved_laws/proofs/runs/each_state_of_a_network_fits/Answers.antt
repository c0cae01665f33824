use Rattle.saved_laws.proofs.Networks.{network-fits}
use Rattle.saved_laws.proofs.runs.each_state_of_a_network_fits.Goals as goal

pub returns : goal.returns
returns c = record { fits = network-fits }
