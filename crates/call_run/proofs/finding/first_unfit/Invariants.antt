use Rattle.std.proofs.Common.{◌≡◌, drop}
use Rattle.call_specs.specs.Called.{first_unfit}
use Rattle.call_run.proofs.finding.first_unfit.Given as goal

abbrev pub invariant-loop-place : goal.invariant-loop-place
invariant-loop-place l = first_unfit l.place (drop l.place l.types) l.left ≡ first_unfit 0 l.types l.arguments
