use Rattle.world_laws.proofs.Arranged.{any-order}
use Rattle.world_laws.proofs.orders.any_order_gives_the_same_nodes.Goals as goal

pub returns : goal.returns
returns g c = record { same = any-order }
