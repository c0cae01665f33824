use Rattle.play_run.proofs.Submitting.{numbers-step}
use Rattle.play_run.proofs.play.numbers_below.Goals as goal

pub loop-number-preserved : goal.loop-number-preserved
loop-number-preserved c = numbers-step _ _ c.loop-number.number c.in_ok-push.ensures.items c.loop-number.invariant
