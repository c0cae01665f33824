use Rattle.std.proofs.Common.{◌≡◌, drop, map, take}
use Rattle.std.specs.Prelude.{slice_index}
use Rattle.world_specs.specs.Sessions.{ticking_from}
use Rattle.world_core.proofs.clocks.ticked.Given as goal

abbrev pub invariant-loop-place : goal.invariant-loop-place
invariant-loop-place l = l.values.items ≡ map (slice_index l.countdown) (ticking_from 0 l.now (take l.place (drop l.first l.clocks)))
