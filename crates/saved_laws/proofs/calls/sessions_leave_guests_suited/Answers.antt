use Rattle.saved_laws.proofs.Saving.{all-keep}
use Rattle.saved_laws.proofs.calls.sessions_leave_guests_suited.Goals as goal

pub returns : goal.returns
returns c = record { suited = all-keep }
