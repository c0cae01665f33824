use Rattle.std.proofs.Common.{◌≡◌, ◌≤◌, ◌++◌}
use Rattle.frame_specs.specs.FrameText.{hex}
use Rattle.can_frame.proofs.printing.push_number.Given as goal

-- The digits so far and those that are left are the whole.
abbrev pub invariant-loop-left : goal.invariant-loop-left
invariant-loop-left l =
    record { whole : l.text.items ++ hex l.left l.number ≡ l.fn.text.items ++ hex l.width l.number; within : l.left ≤ l.width }

abbrev pub decreases-loop-left : goal.decreases-loop-left
decreases-loop-left l = l.left
