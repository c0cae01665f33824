-- The ideal run of a network, cut in two.
use Rattle.std.specs.Prelude.{ℕ, ◌-◌, List}
use Rattle.log_specs.specs.Line.{Line}
use Rattle.run_specs.specs.Run.{behind, head}
use Rattle.wasm_types.specs.Modules.{NestedModule}
use Rattle.binding_specs.specs.Guests.{Guest}
use Rattle.world_specs.specs.World.{World}
use Rattle.world_specs.specs.Network.{network, run_lines, run_status}
use Rattle.network_specs.specs.Networks.{Network}
use Rattle.ideal_specs.specs.Ideal.{guest_units, ideal_world}

-- its state behind so many events, or behind the last
abbrev pub state_behind : Network NestedModule → ℕ → World Guest
state_behind n k = behind (network (guest_units n.plan) n.plan.stop) k (ideal_world n)

-- the lines of so many events
abbrev pub head_lines : Network NestedModule → ℕ → List Line
head_lines n k = head (network (guest_units n.plan) n.plan.stop) k (ideal_world n)

-- the lines from a state on, the close included, with what is left of the budget, and the status that the last of them states
abbrev pub rest_lines : Network NestedModule → World Guest → List Line
rest_lines n w = run_lines (guest_units n.plan) n.plan.stop (n.plan.events - w.events) w

abbrev pub rest_status : Network NestedModule → World Guest → ℕ
rest_status n w = run_status (guest_units n.plan) n.plan.stop (n.plan.events - w.events) w
