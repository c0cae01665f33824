use Rattle.std.proofs.Common.{◌≡◌, fold, map, take}
use Rattle.std.specs.Prelude.{option_map, None}
use Rattle.world_core.specs.Events.{event_of}
use Rattle.world_core.specs.First.{earlier, first_on}
use Rattle.world_core.proofs.next.first_due.Given as goal

abbrev pub invariant-loop-place : goal.invariant-loop-place
invariant-loop-place l = option_map event_of l.event ≡ fold earlier None (map (first_on l.now) (take l.place l.buses))
