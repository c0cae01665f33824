use Rattle.std.proofs.Common.{◌≡◌, take, map, All, true}
use Rattle.bus_specs.specs.Bus.{member_is}
use Rattle.log_lines.specs.Lines.{line_of}
use Rattle.play_run.specs.Moments.{taken_by}
use Rattle.play_run.proofs.moment.take_notices.Given as goal

-- The nodes so far have taken their notices, and all are members.
abbrev pub invariant-loop-node : goal.invariant-loop-node
invariant-loop-node l = record {
  members : All (λ n. member_is (λ m. true) l.medium.members n ≡ true) l.nodes;
  taken : (l.medium, map line_of l.lines.items) ≡ taken_by l.now (l.fn.medium, map line_of l.fn.lines.items) (take l.node-index l.nodes);
}
