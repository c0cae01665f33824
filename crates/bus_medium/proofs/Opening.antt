-- A new bus is kept.
use Rattle.std.proofs.Common.{arith}
use Rattle.bus_specs.specs.Bus.{new_bus}
use Rattle.bus_sound.proofs.Opened.{new_bus-sound}
use Rattle.bus_medium.specs.declared.setup.BusSetup.{BusSetup}
use Rattle.bus_medium.specs.Setups.{IsKept, IsWellFormed, setup_of}

pub new_bus-kept : (s : BusSetup) → IsWellFormed s → IsKept (new_bus (setup_of s) s.members)
new_bus-kept s w = record {
  sound = new_bus-sound (setup_of s) s.members w.rise.0 w.errors w.rise.1;
  idle = omega arith;
}
