use Rattle.std.proofs.Common.{sym}
use Rattle.frame_specs.specs.Wire.{tail_bits}
use Rattle.frame_bits.proofs.TimeSums.{sum-first}
use Rattle.frame_bits.proofs.times.ticks.Goals as goal

pub returns-clause-exact : goal.returns-clause-exact
returns-clause-exact c =
    rw (c.bits.ensures.value, c.bits-2.ensures.value, c.min-slow.ensures, c.min-body.ensures)
    (sym (sum-first c.args.count c.args.timing.slow c.args.timing.body tail_bits c.args.nominal c.args.fast c.requires.order c.requires.count))
