use Rattle.std.proofs.Common.{◌≡◌, drop, take}
use Rattle.world_core.proofs.image.dues_from.Given as goal

abbrev pub invariant-loop-place : goal.invariant-loop-place
invariant-loop-place l = l.dues.items ≡ take l.place (drop l.first l.clocks)
