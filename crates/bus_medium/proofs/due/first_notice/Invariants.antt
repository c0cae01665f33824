use Rattle.std.proofs.Common.{◌≡◌, map, fold, take, flat_map}
use Rattle.std.specs.Prelude.{option_map}
use Rattle.run_specs.specs.Order.{better_of}
use Rattle.bus_specs.specs.Due.{notice_moments, precedes, at, Notices}
use Rattle.bus_medium.specs.Dues.{due_of}
use Rattle.bus_medium.proofs.due.first_notice.Given as goal

abbrev pub invariant-loop-member : goal.invariant-loop-member
invariant-loop-member l = option_map due_of l.best
    ≡ fold (better_of precedes) (option_map due_of l.fn.best) (map (at Notices) (flat_map notice_moments (take l.member-index l.members)))
