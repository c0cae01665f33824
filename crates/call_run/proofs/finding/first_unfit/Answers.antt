use Rattle.std.proofs.Common.{◌∙◌, drop}
use Rattle.call_run.proofs.Chosen.{none_left}
use Rattle.call_run.proofs.finding.first_unfit.Goals as goal

pub returns-in_default : goal.returns-in_default
returns-in_default c =
    none_left c.loop-place.place (drop c.loop-place.place c.args.types.now) c.loop-place.left.now c.in_default.len_below ∙ c.loop-place.invariant
