use Rattle.std.proofs.Common.{◌∙◌}
use Rattle.frame_bits.proofs.TimeSums.{time_of-spread, time_of-le}
use Rattle.frame_bits.proofs.times.time_of_bit.Goals as goal

pub returns-clause-exact : goal.returns-clause-exact
returns-clause-exact c =
    let t = c.timing_of in
    c.ticks.ensures.exact
    ∙ time_of-spread c.args.f.now c.args.k c.args.nominal c.args.fast t.result.slow t.result.body t.ensures.slow t.ensures.body

pub returns-clause-within : goal.returns-clause-within
returns-clause-within c = rw (returns-clause-exact c) (time_of-le c.args.f.now c.args.k c.args.nominal c.args.fast)
