use Rattle.std.proofs.Common.{arith, None}
use Rattle.run_specs.specs.Order.{better_of}
use Rattle.bus_specs.specs.Due.{precedes}
use Rattle.bus_medium.specs.FirstDues.{return_of}
use Rattle.bus_medium.proofs.Folding.{fold_filter_map_more}
use Rattle.bus_medium.proofs.due.first_return.Goals as goal

pub loop-member-preserved : goal.loop-member-preserved
loop-member-preserved c =
    let more = fold_filter_map_more (better_of precedes) None (return_of c.args.idle c.args.nominal) c.args.members.now c.loop-member.member-index
    c.member-item.result (omega arith) c.member-item.is in
    cc (more, c.first-best.ensures, c.return_due.ensures, c.loop-member.invariant)
