use Rattle.std.proofs.Common.{◌≡◌, length}
use Rattle.binding_specs.specs.Guests.{most_bytes}
use Rattle.fmi_binding.proofs.sizes.most_bytes.Given as goal

abbrev pub invariant-loop-left : goal.invariant-loop-left
invariant-loop-left l = most_bytes l.left l.reference ≡ most_bytes l.terminals l.reference

abbrev pub decreases-loop-left : goal.decreases-loop-left
decreases-loop-left l = length l.left
