use Rattle.std.proofs.Common.{◌≡◌, drop}
use Rattle.world_core.specs.Closing.{left_from}
use Rattle.world_core.proofs.closing.leave_live.Given as goal

-- Those that are left leave the buses of now as all leave those of before.
abbrev pub invariant-loop-node : goal.invariant-loop-node
invariant-loop-node l = left_from l.node (drop l.node l.standings) l.buses.items ≡ left_from 0 l.standings l.fn.buses.items
