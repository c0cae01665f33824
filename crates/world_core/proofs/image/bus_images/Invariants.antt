use Rattle.std.proofs.Common.{◌≡◌, map, take}
use Rattle.bus_images.specs.Images.{bus_image}
use Rattle.world_core.proofs.image.bus_images.Given as goal

abbrev pub invariant-loop-bus : goal.invariant-loop-bus
invariant-loop-bus l = l.images.items ≡ map bus_image (take l.bus-index l.buses)
