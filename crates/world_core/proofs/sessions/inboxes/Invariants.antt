use Rattle.std.proofs.Common.{◌≡◌, map, take}
use Rattle.world_specs.specs.Sessions.{inbox_on}
use Rattle.world_core.proofs.sessions.inboxes.Given as goal

abbrev pub invariant-loop-bus : goal.invariant-loop-bus
invariant-loop-bus l = l.items.items ≡ map (inbox_on l.buses l.now l.node) (take l.bus-index l.names)
