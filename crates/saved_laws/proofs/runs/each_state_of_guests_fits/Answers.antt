use Rattle.saved_laws.proofs.Saving.{guests-fit}
use Rattle.saved_laws.proofs.runs.each_state_of_guests_fits.Goals as goal

pub returns : goal.returns
returns c = record { fits = guests-fit }
