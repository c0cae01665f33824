use Rattle.std.proofs.Common.{◌≡◌, ◌≤◌, ◌++◌, length, take, drop, vec_len}
use Rattle.bus_medium.specs.Finishing.{with_afters}
use Rattle.bus_medium.proofs.finishing.apply.Given as goal

-- the members from here on have become what was planned
abbrev pub invariant-loop-after : goal.invariant-loop-after
invariant-loop-after l = record {
  left : l.afters.items ≡ take (vec_len l.afters) l.fn.afters.items;
  within : vec_len l.afters ≤ length l.fn.members;
  done : l.members ≡ take (vec_len l.afters) l.fn.members
      ++ with_afters (drop (vec_len l.afters) l.fn.afters.items) (drop (vec_len l.afters) l.fn.members);
}

abbrev pub decreases-loop-after : goal.decreases-loop-after
decreases-loop-after l = vec_len l.afters
