use Rattle.world_laws.proofs.Timed.{forward, none-late}
use Rattle.world_laws.proofs.events.moments_never_fall.Goals as goal

pub returns-clause-forward : goal.returns-clause-forward
returns-clause-forward g c = forward

pub returns-clause-behind : goal.returns-clause-behind
returns-clause-behind g c = none-late
