use Rattle.std.proofs.Common.{◌≡◌, ◌++◌, ◌*◌, drop, map}
use Rattle.world_core.specs.Saved.{image_of, standing_images}
use Rattle.world_core.proofs.course.Course.node_images.Given as goal

-- the images so far, and those of the other nodes
abbrev pub invariant-loop-place : goal.invariant-loop-place
invariant-loop-place l =
    map image_of l.images.items
    ++ standing_images (drop l.place l.self-inside.nodes.items) (drop l.place l.self-inside.standings.items) (drop (l.place * 8) l.self-inside.clocks)
    ≡ standing_images l.self-inside.nodes.items l.self-inside.standings.items l.self-inside.clocks
