-- A plan of which the laws say something: two nodes on one bus, of which one is on a second bus.
use Rattle.std.specs.Prelude.{ℕ, ◌+◌, List, [], ◌∷◌, None}
use Rattle.unit_specs.specs.Description.{Description, Terminal}
use Rattle.world_specs.specs.Plan.{BusPlan, Plan}

abbrev terminal : ℕ → Terminal
terminal first = record { name = []; rx_data = first; tx_data = first + 1; rx_clock = first + 2; tx_clock = first + 3; rx_max = 256; tx_max = 256 }

abbrev pub sensor : Description
sensor = record { identifier = []; countdown = 0 ∷ []; terminals = terminal 1 ∷ [] }

abbrev pub gateway : Description
gateway = record { identifier = []; countdown = []; terminals = terminal 0 ∷ terminal 4 ∷ [] }

abbrev bus : ℕ → List ℕ → BusPlan
bus number members = record {
  setup = record { number = number; rate = 500000; fd_rate = None; nominal = 2000; data_bit_time = None; errors = [] };
  members = members;
}

abbrev pub two_buses : Plan
two_buses = record {
  resolution = 1000000000;
  stop = 1000000;
  events = 1000000;
  fuel = 1000000;
  buses = bus 0 (0 ∷ 1 ∷ []) ∷ bus 1 (1 ∷ []) ∷ [];
  nodes = record { description = sensor; buses = 0 ∷ [] } ∷ record { description = gateway; buses = 0 ∷ 1 ∷ [] } ∷ [];
}
