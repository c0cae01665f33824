use Rattle.std.proofs.Common.{◌≡◌, fold, take, filter_map}
use Rattle.std.specs.Prelude.{option_map, None}
use Rattle.run_specs.specs.Order.{better_of}
use Rattle.bus_specs.specs.Due.{precedes}
use Rattle.bus_medium.specs.Dues.{due_of}
use Rattle.bus_medium.specs.FirstDues.{return_of}
use Rattle.bus_medium.proofs.due.first_return.Given as goal

abbrev pub invariant-loop-member : goal.invariant-loop-member
invariant-loop-member l = option_map due_of l.best
    ≡ fold (better_of precedes) None (filter_map (return_of l.idle l.nominal) (take l.member-index l.members))
