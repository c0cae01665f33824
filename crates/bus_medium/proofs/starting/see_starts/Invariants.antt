use Rattle.std.proofs.Common.{◌≡◌, ◌<◌, ◌+◌, ◌^◌, ◌++◌, map, take, drop, All}
use Rattle.std.specs.Prelude.{IfSome}
use Rattle.bus_medium.specs.Losers.{member_from}
use Rattle.bus_medium.proofs.starting.see_starts.Given as goal

-- The members so far are changed, and the others are as they were.
abbrev pub invariant-loop-member : goal.invariant-loop-member
invariant-loop-member l = record {
  changed : take l.member-index l.members ++ map (member_from l.spans l.due l.gone) (drop l.member-index l.members)
      ≡ map (member_from l.spans l.due l.gone) l.fn.members;
  room : All (λ m. IfSome m.occurrences (λ n. n + l.spans < 2 ^ 63)) (drop l.member-index l.members);
}
