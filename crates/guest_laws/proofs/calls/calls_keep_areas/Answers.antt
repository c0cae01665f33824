use Rattle.guest_laws.proofs.Placed.{call-area}
use Rattle.guest_laws.proofs.calls.calls_keep_areas.Goals as goal

pub returns : goal.returns
returns c = record { area = λ g call. call-area g call g.phase }
