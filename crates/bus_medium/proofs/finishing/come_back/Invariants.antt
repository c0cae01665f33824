use Rattle.std.proofs.Common.{◌≡◌, ◌++◌, ◌==◌, map, take, drop, if◌then◌else◌}
use Rattle.bus_specs.specs.Finish.{member_after_return}
use Rattle.bus_medium.proofs.finishing.come_back.Given as goal

abbrev pub invariant-loop-member : goal.invariant-loop-member
invariant-loop-member l = take l.member-index l.members
    ++ map (λ m. if m.node == l.node then member_after_return m else m) (drop l.member-index l.members)
    ≡ map (λ m. if m.node == l.node then member_after_return m else m) l.fn.members
