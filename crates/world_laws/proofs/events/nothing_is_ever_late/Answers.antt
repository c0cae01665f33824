use Rattle.world_laws.proofs.Timed.{opening-none-late, never-late}
use Rattle.world_laws.proofs.events.nothing_is_ever_late.Goals as goal

pub returns-clause-opening : goal.returns-clause-opening
returns-clause-opening g c = opening-none-late

pub returns-clause-along : goal.returns-clause-along
returns-clause-along g c = never-late
