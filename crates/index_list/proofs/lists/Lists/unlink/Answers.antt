use Rattle.std.proofs.Common.{ap, ◌∙◌, arith, Some}
use Rattle.index_list.specs.Many.{Many}
use Rattle.index_list.proofs.Ties.{seen, there, found}
use Rattle.index_list.proofs.Calls.{shown, both_beside, taken, item_is}
use Rattle.index_list.proofs.lists.Lists.unlink.Goals as goal

pub take_out-requires-clause-there : goal.take_out-requires-clause-there
take_out-requires-clause-there g c =
    let linked = shown _ _ _ c.self.invariant (ap (λ (m : Many g.row.T.Denot). m.lists) c.self.view_is) in
    there _ _ _ _ _ linked c.requires.here

pub take_out-requires-clause-tied : goal.take_out-requires-clause-tied
take_out-requires-clause-tied g c =
    let linked = shown _ _ _ c.self.invariant (ap (λ (m : Many g.row.T.Denot). m.lists) c.self.view_is) in
    λ n e. both_beside _ _ _ _ _ n linked c.requires.here e

pub invariant_of-self : goal.invariant_of-self
invariant_of-self g c =
    let linked = shown _ _ _ c.self.invariant (ap (λ (m : Many g.row.T.Denot). m.lists) c.self.view_is) in
    record {
      lists = _;
      linked = taken _ _ _ _ _ _ _ linked c.requires.here c.take_out.ensures.nodes c.take_out.ensures.ends
          c.take_out.ensures.len;
    }

pub returns-clause-item : goal.returns-clause-item
returns-clause-item g c =
    let linked = shown _ _ _ c.self.invariant (ap (λ (m : Many g.row.T.Denot). m.lists) c.self.view_is) in
    λ i h. let n = found _ _ _ _ i linked h in item_is _ _ _ _ i _ linked h n.node ∙ ap Some (c.take_out.ensures.item _ n.node)

pub returns-clause-lists : goal.returns-clause-lists
returns-clause-lists g c =
    let linked = shown _ _ _ c.self.invariant (ap (λ (m : Many g.row.T.Denot). m.lists) c.self.view_is) in
    seen c.take_out.new.nodes c.take_out.new.ends.items _
    (taken _ _ _ _ _ _ _ linked c.requires.here c.take_out.ensures.nodes c.take_out.ensures.ends c.take_out.ensures.len)

pub returns-clause-spare : goal.returns-clause-spare
returns-clause-spare g c =
    let v = ap (λ (m : Many g.row.T.Denot). m.spare) c.self.view_is in
    omega (arith, v, c.take_out.ensures.len, c.take_out.ensures.room, c.take_out.ensures.capacity)
