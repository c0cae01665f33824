use Rattle.std.proofs.Common.{sym, ap, ◌∙◌}
use Rattle.std.specs.Option.{option_copied}
use Rattle.index_list.specs.Many.{Many}
use Rattle.index_list.proofs.Calls.{shown, no_node, item_is}
use Rattle.index_list.proofs.lists.Lists.get.Goals as goal

pub unreachable-requires : goal.unreachable-requires
unreachable-requires g c =
    let linked = shown _ _ _ c.self.invariant (ap (λ (m : Many g.row.T.Denot). m.lists) c.self.view_is) in
    no_node _ _ _ _ _ linked c.requires.here (sym c.get.ensures ∙ ap option_copied c.in-None.is)

pub returns : goal.returns
returns g c =
    let linked = shown _ _ _ c.self.invariant (ap (λ (m : Many g.row.T.Denot). m.lists) c.self.view_is) in
    λ i h. item_is _ _ _ _ i _ linked h (sym c.get.ensures ∙ ap option_copied c.in-Some.is)
