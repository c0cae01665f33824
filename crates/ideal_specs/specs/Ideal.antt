-- The ideal run of a network, each of whose units is a guest: from the opening, in which nothing has happened and each
-- guest is as its module has it at the beginning, event by event up to the stop or the budget, and then its close.
use Rattle.std.specs.Prelude.{ℕ, List, [], ◌∷◌}
use Rattle.log_specs.specs.Line.{Line, log_text}
use Rattle.wasm_types.specs.Modules.{NestedModule}
use Rattle.binding_specs.specs.Guests.{Guest}
use Rattle.binding_specs.specs.Answers.{answer, fresh_guest}
use Rattle.world_specs.specs.Units.{Units}
use Rattle.world_specs.specs.World.{World}
use Rattle.world_specs.specs.Plan.{NodePlan, Plan, opening_of, units_of}
use Rattle.world_specs.specs.Network.{run_lines, run_status}
use Rattle.network_specs.specs.Networks.{Network}

-- the guest of each node, before its first call
abbrev pub guests_from : (fuel : ℕ) → List NestedModule → List NodePlan → List Guest
guests_from fuel (m ∷ ms) (n ∷ ns) = fresh_guest m n.description fuel ∷ guests_from fuel ms ns
guests_from fuel ms ns = []

-- a guest answers each call by its own code
abbrev pub guest_units : Plan → Units Guest
guest_units p = units_of answer (λ g. g.phase) p

-- nothing has happened
abbrev pub ideal_world : Network NestedModule → World Guest
ideal_world n = opening_of n.plan (guests_from n.plan.fuel n.codes n.plan.nodes)

-- the lines of its log, its text, and the status that the last line states: 8 where an event is left, else 0
abbrev pub ideal_lines : Network NestedModule → List Line
ideal_lines n = run_lines (guest_units n.plan) n.plan.stop n.plan.events (ideal_world n)

abbrev pub ideal_log : Network NestedModule → List ℕ
ideal_log n = log_text (ideal_lines n)

abbrev pub ideal_status : Network NestedModule → ℕ
ideal_status n = run_status (guest_units n.plan) n.plan.stop n.plan.events (ideal_world n)
