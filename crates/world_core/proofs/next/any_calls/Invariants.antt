use Rattle.std.proofs.Common.{◌≡◌, drop}
use Rattle.world_core.specs.First.{any_calls}
use Rattle.world_core.proofs.next.any_calls.Given as goal

abbrev pub invariant-loop-node : goal.invariant-loop-node
invariant-loop-node l = any_calls l.buses l.now l.node (drop l.node l.standings) ≡ any_calls l.buses l.now 0 l.standings
