use Rattle.world_laws.proofs.Order.{next-is, next-within, next-only, next-none}
use Rattle.world_laws.proofs.events.the_next_event_is_foremost.Goals as goal

pub returns-clause-foremost : goal.returns-clause-foremost
returns-clause-foremost g c = next-is

pub returns-clause-within : goal.returns-clause-within
returns-clause-within g c = next-within

pub returns-clause-only : goal.returns-clause-only
returns-clause-only g c = next-only

pub returns-clause-none : goal.returns-clause-none
returns-clause-none g c = next-none
