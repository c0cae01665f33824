use Rattle.std.proofs.Common.{◌≡◌, length, map}
use Rattle.log_lines.specs.Lines.{line_of}
use Rattle.play_run.specs.Moments.{carried_out}
use Rattle.play_run.specs.Prefixes.{at_moment, behind_moment}
use Rattle.play_run.specs.Ready.{Takes}
use Rattle.play_run.proofs.moment.submit_at.Given as goal

-- The bus and the lines so far, and then the actions that are left, lead to the whole.
abbrev pub invariant-loop-action : goal.invariant-loop-action
invariant-loop-action l = record {
  takes : Takes l.ahead.items l.medium;
  whole : carried_out (l.medium, map line_of l.lines.items) (at_moment l.now l.ahead.items)
      ≡ carried_out (l.fn.medium, map line_of l.fn.lines.items) (at_moment l.now l.fn.ahead.items);
  behind : behind_moment l.now l.ahead.items ≡ behind_moment l.now l.fn.ahead.items;
}

abbrev pub decreases-loop-action : goal.decreases-loop-action
decreases-loop-action l = length l.ahead.items
