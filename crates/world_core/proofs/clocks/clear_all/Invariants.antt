use Rattle.std.proofs.Common.{◌≡◌, ◌+◌, ◌-◌, length, replicate}
use Rattle.session_specs.specs.Outcome.{Clear}
use Rattle.world_core.specs.Clocks.{settled}
use Rattle.world_core.proofs.clocks.clear_all.Given as goal

abbrev pub invariant-loop-place : goal.invariant-loop-place
invariant-loop-place l = record {
  whole : settled 0 (l.first + l.place) (replicate (l.count - l.place) Clear) l.clocks ≡ settled 0 l.first (replicate l.count Clear) l.fn.clocks;
  entries : length l.clocks ≡ length l.fn.clocks;
}
