use Rattle.std.proofs.Common.{sym, ◌∙◌}
use Rattle.world_laws.proofs.Arranged.{any-order}
use Rattle.world_laws.proofs.orders.two_orders_give_the_same_nodes.Goals as goal

pub returns : goal.returns
returns g c = record { same = λ u buses t nodes one other d e k l. any-order u buses t nodes one d k ∙ sym (any-order u buses t nodes other e l) }
