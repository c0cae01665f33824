use Rattle.std.proofs.Common.{◌≡◌, ◌++◌, drop}
use Rattle.world_specs.specs.Plan.{naming_from}
use Rattle.network_plan.proofs.members.members_of.Given as goal

abbrev pub invariant-loop-node : goal.invariant-loop-node
invariant-loop-node l =
    record {
      count : l.place ≡ l.node-index;
      rest : l.members.items ++ naming_from l.place (drop l.node-index l.nodes) l.bus ≡ naming_from 0 l.nodes l.bus;
    }
