use Rattle.std.proofs.Common.{◌∙◌}
use Rattle.frame_bits.proofs.TimeSums.{duration-spread}
use Rattle.frame_bits.proofs.times.duration.Goals as goal

pub returns-clause-exact : goal.returns-clause-exact
returns-clause-exact c =
    let t = c.timing_of-timing in
    c.ticks.ensures.exact
    ∙ duration-spread c.args.f.now c.args.nominal c.args.fast t.result.slow t.result.body t.ensures.slow t.ensures.body t.ensures.order
