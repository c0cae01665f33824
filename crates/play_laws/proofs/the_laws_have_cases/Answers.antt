use Rattle.std.proofs.Common.{refl}
use Rattle.play_laws.proofs.Cases.{hurt-starts, hurt-hurts, failing-starts, failing-by, returning-sound, returning-next}
use Rattle.play_laws.proofs.the_laws_have_cases.Goals as goal

pub returns-clause-hurt : goal.returns-clause-hurt
returns-clause-hurt c = (hurt-starts, hurt-hurts, refl)

pub returns-clause-fails : goal.returns-clause-fails
returns-clause-fails c = (failing-starts, failing-by)

pub returns-clause-returns : goal.returns-clause-returns
returns-clause-returns c = (returning-sound, returning-next)
