use Rattle.std.proofs.Common.{◌≡◌, ◌++◌, drop}
use Rattle.bus_images.specs.Images.{members_from}
use Rattle.bus_medium.proofs.image.members_of.Given as goal

-- the members so far, and those of the other nodes
abbrev pub invariant-loop-place : goal.invariant-loop-place
invariant-loop-place l =
    l.members.items ++ members_from l.live (drop l.place l.nodes) (drop l.place l.images) ≡ members_from l.live l.nodes l.images
