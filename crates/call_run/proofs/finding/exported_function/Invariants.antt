use Rattle.std.proofs.Common.{◌≡◌, length}
use Rattle.call_specs.specs.Called.{exported_function}
use Rattle.call_run.proofs.finding.exported_function.Given as goal

abbrev pub invariant-loop-left : goal.invariant-loop-left
invariant-loop-left l = exported_function l.name l.left ≡ exported_function l.name l.exports

abbrev pub decreases-loop-left : goal.decreases-loop-left
decreases-loop-left l = length l.left
