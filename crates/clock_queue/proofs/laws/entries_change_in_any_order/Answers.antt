use Rattle.std.proofs.lemmas.List.{set_comm}
use Rattle.clock_queue.proofs.laws.entries_change_in_any_order.Goals as goal

pub returns : goal.returns
returns g c = λ dues entry other x y. set_comm dues entry other x y
