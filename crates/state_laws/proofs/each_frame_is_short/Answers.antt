use Rattle.std.proofs.Common.{arith}
use Rattle.state_laws.proofs.Short.{wire-short, duration-short}
use Rattle.state_laws.proofs.each_frame_is_short.Goals as goal

pub returns-clause-wire : goal.returns-clause-wire
returns-clause-wire c = wire-short

pub returns-clause-lasts : goal.returns-clause-lasts
returns-clause-lasts c = λ f bit n d slow fast h. let l = duration-short bit n d slow fast f h in omega (arith, l)
