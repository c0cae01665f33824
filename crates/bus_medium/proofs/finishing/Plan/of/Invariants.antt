use Rattle.std.proofs.Common.{◌≡◌, map, take, flat_map}
use Rattle.log_lines.specs.Lines.{line_of}
use Rattle.bus_specs.specs.Finish.{counters_after}
use Rattle.bus_medium.specs.Finishing.{after, receiver, state_line}
use Rattle.bus_medium.proofs.finishing.Plan.of.Given as goal

-- the plan of the members so far
abbrev pub invariant-loop-member : goal.invariant-loop-member
invariant-loop-member l = record {
  afters : l.plan.afters.items ≡ map (after l.running) (take l.member-index l.members);
  receivers : l.plan.receivers.items ≡ flat_map (receiver l.running) (take l.member-index l.members);
  states : map line_of l.plan.states.items
      ≡ flat_map (λ m. state_line l.now l.bus (counters_after l.running m) m) (take l.member-index l.members);
}
