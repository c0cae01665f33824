use Rattle.frame_bits.proofs.Stuffing.{listed-bit}
use Rattle.frame_bits.proofs.listing.Lister.bit.Goals as goal

pub returns-clause-lists : goal.returns-clause-lists
returns-clause-lists c = λ bits h.
    let due_is = c.due.ensures _ h.took.counts in
    record {
      took = c.bit.ensures.took bits h.took;
      list_is = listed-bit _ _ _ bits c.due.result c.args.bit h.list_is due_is c.in_ok-push_due.ensures c.in_ok-push.ensures.items;
    }
