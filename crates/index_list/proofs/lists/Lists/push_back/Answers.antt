use Rattle.std.proofs.Common.{ap}
use Rattle.index_list.specs.Many.{Many}
use Rattle.index_list.proofs.Ties.{seen, nowhere}
use Rattle.index_list.proofs.Calls.{shown, last_node, pushed}
use Rattle.index_list.proofs.lists.Lists.push_back.Goals as goal

pub insert_between-requires-clause-prev : goal.insert_between-requires-clause-prev
insert_between-requires-clause-prev g c =
    let linked = shown _ _ _ c.self.invariant (ap (λ (m : Many g.row.T.Denot). m.lists) c.self.view_is) in
    last_node _ _ _ _ _ linked c.requires.list c.index.ensures

pub invariant_of-self : goal.invariant_of-self
invariant_of-self g c =
    let linked = shown _ _ _ c.self.invariant (ap (λ (m : Many g.row.T.Denot). m.lists) c.self.view_is) in
    record {
      lists = _;
      linked = pushed _ _ _ _ _ _ _ _ _ linked c.requires.list c.index.ensures c.insert_between.ensures.nodes
          c.insert_between.ensures.len c.insert_between.ensures.ends;
    }

pub returns-clause-new_place : goal.returns-clause-new_place
returns-clause-new_place g c =
    let linked = shown _ _ _ c.self.invariant (ap (λ (m : Many g.row.T.Denot). m.lists) c.self.view_is) in
    nowhere _ _ _ _ linked c.insert_between.ensures.nodes.fresh

pub returns-clause-lists : goal.returns-clause-lists
returns-clause-lists g c =
    let linked = shown _ _ _ c.self.invariant (ap (λ (m : Many g.row.T.Denot). m.lists) c.self.view_is) in
    seen c.insert_between.new.nodes c.insert_between.new.ends.items _
    (pushed _ _ _ _ _ _ _ _ _ linked c.requires.list c.index.ensures c.insert_between.ensures.nodes c.insert_between.ensures.len
    c.insert_between.ensures.ends)
