use Rattle.std.proofs.Common.{◌≡◌, length}
use Rattle.binding_specs.specs.Exports.{export_named}
use Rattle.fmi_binding.proofs.exports.export_named.Given as goal

abbrev pub invariant-loop-left : goal.invariant-loop-left
invariant-loop-left l = export_named l.name l.left ≡ export_named l.name l.exports

abbrev pub decreases-loop-left : goal.decreases-loop-left
decreases-loop-left l = length l.left
