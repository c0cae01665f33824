use Rattle.std.proofs.Common.{◌<◌, ◌+◌, true, false, length, ap, sym, ◌∙◌, arith}
use Rattle.std.proofs.lemmas.List.{append-nil}
use Rattle.world_core.proofs.ClockSteps.{ticked-on}
use Rattle.world_core.proofs.clocks.ticked.Goals as goal
use Rattle.world_core.proofs.clocks.ticked.Goals.{then-ticks+in_ok-push, else-ticks}

pub loop-place-preserved : goal.loop-place-preserved
loop-place-preserved c =
    let inside : c.loop-place.place < length c.args.countdown.now = omega arith in
    let within : c.args.first + c.loop-place.place < length c.args.clocks.now = omega (arith, inside, c.requires.within) in
    elim c.if-ticks.branch [
      | then-ticks+in_ok-push w ↦ ticked-on c.args.now c.args.first c.loop-place.place c.args.countdown.now c.args.clocks.now c.loop-place.values.items c.if-ticks.values.items true within
          w.if-ticks.ensures (ap (λ v. v.items) w.values-is ∙ w.in_ok-push.ensures.items) c.loop-place.invariant
      | else-ticks w ↦ ticked-on c.args.now c.args.first c.loop-place.place c.args.countdown.now c.args.clocks.now c.loop-place.values.items c.if-ticks.values.items false within
          w.if-ticks.ensures (ap (λ v. v.items) w.values-is ∙ sym (append-nil c.loop-place.values.items)) c.loop-place.invariant
    ]
