use Rattle.std.proofs.Common.{sym, ap, ◌∙◌}
use Rattle.std.specs.Option.{option_copied}
use Rattle.index_list.specs.Many.{Many}
use Rattle.index_list.proofs.Ties.{seen, nowhere}
use Rattle.index_list.proofs.Calls.{shown, no_node, list_within, prev_node, put_before}
use Rattle.index_list.proofs.lists.Lists.insert_before.Goals as goal

pub unreachable-requires : goal.unreachable-requires
unreachable-requires g c =
    let linked = shown _ _ _ c.self.invariant (ap (λ (m : Many g.row.T.Denot). m.lists) c.self.view_is) in
    no_node _ _ _ _ _ linked c.requires.place.here (sym c.get.ensures ∙ ap option_copied c.in-None.is)

pub insert_between-requires-clause-list : goal.insert_between-requires-clause-list
insert_between-requires-clause-list g c =
    let linked = shown _ _ _ c.self.invariant (ap (λ (m : Many g.row.T.Denot). m.lists) c.self.view_is) in
    list_within _ _ _ _ _ _ linked c.requires.place.here (sym c.get.ensures ∙ ap option_copied c.in-Some.is)

pub insert_between-requires-clause-prev : goal.insert_between-requires-clause-prev
insert_between-requires-clause-prev g c =
    let linked = shown _ _ _ c.self.invariant (ap (λ (m : Many g.row.T.Denot). m.lists) c.self.view_is) in
    prev_node _ _ _ _ _ _ linked c.requires.place.here (sym c.get.ensures ∙ ap option_copied c.in-Some.is)

pub invariant_of-self : goal.invariant_of-self
invariant_of-self g c =
    let linked = shown _ _ _ c.self.invariant (ap (λ (m : Many g.row.T.Denot). m.lists) c.self.view_is) in
    record {
      lists = _;
      linked = put_before _ _ _ _ _ _ _ _ _ _ linked c.requires.place.here
          (sym c.get.ensures ∙ ap option_copied c.in-Some.is) c.insert_between.ensures.nodes c.insert_between.ensures.len
          c.insert_between.ensures.ends;
    }

pub returns-clause-new_place : goal.returns-clause-new_place
returns-clause-new_place g c =
    let linked = shown _ _ _ c.self.invariant (ap (λ (m : Many g.row.T.Denot). m.lists) c.self.view_is) in
    nowhere _ _ _ _ linked c.insert_between.ensures.nodes.fresh

pub returns-clause-lists : goal.returns-clause-lists
returns-clause-lists g c =
    let linked = shown _ _ _ c.self.invariant (ap (λ (m : Many g.row.T.Denot). m.lists) c.self.view_is) in
    seen c.insert_between.new.nodes c.insert_between.new.ends.items _
    (put_before _ _ _ _ _ _ _ _ _ _ linked c.requires.place.here
    (sym c.get.ensures ∙ ap option_copied c.in-Some.is) c.insert_between.ensures.nodes c.insert_between.ensures.len
    c.insert_between.ensures.ends)
