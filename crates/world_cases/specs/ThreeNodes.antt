-- A network of three nodes on two buses: the first is on bus 0, the second on both, the third on bus 1.
use Rattle.std.specs.Prelude.{ℕ, ◌+◌, List, [], ◌∷◌, None, Some}
use Rattle.unit_specs.specs.Description.{Description, Terminal}
use Rattle.world_specs.specs.Plan.{BusPlan, NodePlan, Plan}

-- a terminal whose value references begin with this one
abbrev pub terminal : ℕ → Terminal
terminal first = record { name = []; rx_clock = first; rx_data = first + 1; tx_clock = first + 2; tx_data = first + 3; rx_max = 256; tx_max = 256 }

-- a node whose unit has these countdown clocks and terminals, on these buses
abbrev pub unit : List ℕ → List Terminal → Description
unit clocks terminals = record { identifier = []; countdown = clocks; terminals = terminals }

abbrev pub node : List ℕ → List Terminal → List ℕ → NodePlan
node clocks terminals buses = record { description = unit clocks terminals; buses = buses }

abbrev pub first_node : NodePlan
first_node = node (100 ∷ []) (terminal 0 ∷ []) (0 ∷ [])

abbrev pub second_node : NodePlan
second_node = node [] (terminal 0 ∷ terminal 10 ∷ []) (0 ∷ 1 ∷ [])

abbrev pub third_node : NodePlan
third_node = node [] (terminal 0 ∷ []) (1 ∷ [])

-- a tick is a nanosecond
abbrev pub fast_bus : BusPlan
fast_bus = record {
  setup = record { number = 0; rate = 500000; fd_rate = Some 2000000; nominal = 2000; data_bit_time = Some 500; errors = [] };
  members = 0 ∷ 1 ∷ [];
}

abbrev pub slow_bus : BusPlan
slow_bus = record {
  setup = record { number = 1; rate = 250000; fd_rate = None; nominal = 4000; data_bit_time = None; errors = [] };
  members = 1 ∷ 2 ∷ [];
}

abbrev pub three_nodes : (stop events : ℕ) → Plan
three_nodes stop events = record {
  resolution = 1000000000;
  stop = stop;
  events = events;
  fuel = 1;
  buses = fast_bus ∷ slow_bus ∷ [];
  nodes = first_node ∷ second_node ∷ third_node ∷ [];
}
