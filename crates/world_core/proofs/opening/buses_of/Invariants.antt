use Rattle.std.proofs.Common.{◌≡◌, map}
use Rattle.world_core.specs.Setups.{bus_of}
use Rattle.world_core.proofs.opening.buses_of.Given as goal

abbrev pub invariant-loop-setup : goal.invariant-loop-setup
invariant-loop-setup l = l.buses.items ≡ map bus_of l.yielded
