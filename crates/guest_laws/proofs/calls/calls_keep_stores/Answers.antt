use Rattle.guest_laws.proofs.Placed.{store-suited}
use Rattle.guest_laws.proofs.calls.calls_keep_stores.Goals as goal

pub returns : goal.returns
returns c = record { store = store-suited }
