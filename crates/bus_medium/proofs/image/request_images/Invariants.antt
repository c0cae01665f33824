use Rattle.std.proofs.Common.{◌≡◌, take}
use Rattle.bus_medium.proofs.image.request_images.Given as goal

abbrev pub invariant-loop-request : goal.invariant-loop-request
invariant-loop-request l = l.images.items ≡ take l.request-index l.requests
