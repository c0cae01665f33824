use Rattle.std.proofs.Common.{◌≡◌, length}
use Rattle.std.specs.Prelude.{max}
use Rattle.binding_specs.specs.Guests.{greatest_size}
use Rattle.fmi_binding.proofs.sizes.greatest_size.Given as goal

abbrev pub invariant-loop-left : goal.invariant-loop-left
invariant-loop-left l = max l.greatest (greatest_size l.left) ≡ greatest_size l.terminals

abbrev pub decreases-loop-left : goal.decreases-loop-left
decreases-loop-left l = length l.left
