use Rattle.std.proofs.Common.{ap}
use Rattle.index_list.specs.Many.{Many}
use Rattle.index_list.proofs.Calls.{shown, tip}
use Rattle.index_list.proofs.lists.Lists.first.Goals as goal

pub returns : goal.returns
returns g c =
    let linked = shown _ _ _ c.self.invariant (ap (λ (m : Many g.row.T.Denot). m.lists) c.self.view_is) in
    ap (λ x. x.first) (tip _ _ _ _ _ linked c.requires c.index.ensures)
