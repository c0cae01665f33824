use Rattle.std.proofs.Common.{◌≡◌, map, take}
use Rattle.bus_images.specs.Images.{member_image}
use Rattle.bus_medium.proofs.image.member_images.Given as goal

abbrev pub invariant-loop-member : goal.invariant-loop-member
invariant-loop-member l = l.images.items ≡ map member_image (take l.member-index l.members)
