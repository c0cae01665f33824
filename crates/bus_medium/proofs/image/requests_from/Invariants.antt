use Rattle.std.proofs.Common.{◌≡◌, take}
use Rattle.bus_medium.proofs.image.requests_from.Given as goal

abbrev pub invariant-loop-image : goal.invariant-loop-image
invariant-loop-image l = l.requests.items ≡ take l.image-index l.images
