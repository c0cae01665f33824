use Rattle.std.proofs.Common.{◌≡◌, ◌++◌}
use Rattle.play_run.proofs.moment.push_lines.Given as goal

abbrev pub invariant-loop-line : goal.invariant-loop-line
invariant-loop-line l = l.lines.items ≡ l.fn.lines.items ++ l.yielded
