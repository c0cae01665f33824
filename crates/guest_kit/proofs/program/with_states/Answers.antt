use Rattle.std.proofs.Common.{refl, codes}
use Rattle.guest_kit.proofs.Ascii.{ascii}
use Rattle.guest_kit.proofs.program.with_states.Goals as goal

pub export-requires-3-clause-ascii : goal.export-requires-3-clause-ascii
export-requires-3-clause-ascii c = ascii (codes "fmi3InstantiateCoSimulation") refl

pub export-requires-4-clause-ascii : goal.export-requires-4-clause-ascii
export-requires-4-clause-ascii c = ascii (codes "fmi3EnterInitializationMode") refl

pub export-requires-5-clause-ascii : goal.export-requires-5-clause-ascii
export-requires-5-clause-ascii c = ascii (codes "fmi3ExitInitializationMode") refl
