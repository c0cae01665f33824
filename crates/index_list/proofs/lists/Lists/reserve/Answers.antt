use Rattle.index_list.proofs.lists.Lists.reserve.Goals as goal

pub invariant_of-self : goal.invariant_of-self
invariant_of-self g c =
    let i = c.self.invariant in
    rw c.reserve.ensures.rest_kept
    (record {
      lists = i.lists;
      linked = record { same = i.linked.same; chains = i.linked.chains; tips = i.linked.tips; total = i.linked.total };
    })
