use Rattle.std.proofs.Common.{◌<◌, ◌+◌, length, ap, ◌∙◌, arith}
use Rattle.std.proofs.Math.ListN.{length-set}
use Rattle.world_core.proofs.ClockSteps.{clear-on}
use Rattle.world_core.proofs.clocks.clear_all.Goals as goal

pub loop-place-preserved : goal.loop-place-preserved
loop-place-preserved c =
    let same = c.loop-place.invariant.entries in
    let inside : c.loop-place.place < c.args.count = omega arith in
    let within : c.args.first + c.loop-place.place < length c.loop-place.clocks = omega (arith, same, inside, c.requires.within) in
    record {
      whole = clear-on c.args.first c.loop-place.place c.args.count c.loop-place.clocks c.clear.new.self _ inside within c.clear.ensures.dues c.loop-place.invariant.whole;
      entries = ap length c.clear.ensures.dues ∙ simp length-set same;
    }
