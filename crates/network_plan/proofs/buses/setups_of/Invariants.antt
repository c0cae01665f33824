use Rattle.std.proofs.Common.{◌≡◌, ◌++◌, drop}
use Rattle.std.specs.Prelude.{map}
use Rattle.world_core.specs.Setups.{bus_plan_of}
use Rattle.network_specs.specs.Plans.{bus_plans_from}
use Rattle.network_plan.proofs.buses.setups_of.Given as goal

abbrev pub invariant-loop-bus : goal.invariant-loop-bus
invariant-loop-bus l =
    record {
      count : l.place ≡ l.bus-index;
      rest : map bus_plan_of l.setups.items ++ bus_plans_from l.place l.script l.nodes (drop l.bus-index l.buses) ≡ bus_plans_from 0 l.script l.nodes l.buses;
    }
