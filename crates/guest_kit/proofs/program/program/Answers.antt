use Rattle.std.proofs.Common.{refl, codes}
use Rattle.guest_kit.proofs.Ascii.{ascii}
use Rattle.guest_kit.proofs.program.program.Goals as goal

pub export-requires-5-clause-ascii : goal.export-requires-5-clause-ascii
export-requires-5-clause-ascii c = ascii (codes "fmi3UpdateDiscreteStates") refl

pub export-requires-6-clause-ascii : goal.export-requires-6-clause-ascii
export-requires-6-clause-ascii c = ascii (codes "fmi3GetIntervalFraction") refl
