use Rattle.std.proofs.Common.{◌≡◌, ◌++◌, map, take, drop}
use Rattle.bus_specs.specs.Submit.{member_after_wakeup}
use Rattle.bus_medium.proofs.member_changes.wake_up.Given as goal

-- The members so far have heard it, and the others will.
abbrev pub invariant-loop-member : goal.invariant-loop-member
invariant-loop-member l =
    take l.member-index l.members ++ map (member_after_wakeup l.node l.due) (drop l.member-index l.members)
    ≡ map (member_after_wakeup l.node l.due) l.fn.members
