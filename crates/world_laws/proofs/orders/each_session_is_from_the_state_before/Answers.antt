use Rattle.world_laws.proofs.Arranged.{all-noted}
use Rattle.world_laws.proofs.orders.each_session_is_from_the_state_before.Goals as goal

pub returns : goal.returns
returns g c = record { same = all-noted }
