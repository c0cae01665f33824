use Rattle.std.proofs.Common.{◌≡◌, ◌++◌, length}
use Rattle.fmi_binding.proofs.copies.copy_terminals.Given as goal

abbrev pub invariant-loop-left : goal.invariant-loop-left
invariant-loop-left l = l.copies.items ++ l.left ≡ l.terminals

abbrev pub decreases-loop-left : goal.decreases-loop-left
decreases-loop-left l = length l.left
