-- How what a bus is made from is read as a plan of the definitions. Public clauses cite this file.
use Rattle.bus_specs.specs.Bus.{Bus, new_bus}
use Rattle.bus_medium.specs.declared.setup.BusSetup.{BusSetup}
use Rattle.bus_medium.specs.Setups.{setup_of}
use Rattle.world_specs.specs.Plan.{BusPlan}

abbrev pub bus_plan_of : BusSetup → BusPlan
bus_plan_of s = record { setup = setup_of s; members = s.members }

-- the bus on which nothing has happened
abbrev pub bus_of : BusSetup → Bus
bus_of s = new_bus (setup_of s) s.members
