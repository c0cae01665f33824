use Rattle.std.proofs.Common.{◌≡◌, ◌+◌, drop, length, map}
use Rattle.ecu_session.specs.Words.{due_change_of}
use Rattle.world_core.specs.Clocks.{settled}
use Rattle.world_core.proofs.clocks.settle.Given as goal

-- The changes that are left lead from here to the whole.
abbrev pub invariant-loop-place : goal.invariant-loop-place
invariant-loop-place l = record {
  whole : settled l.now (l.first + l.place) (map due_change_of (drop l.place l.changes)) l.clocks ≡ settled l.now l.first (map due_change_of l.changes) l.fn.clocks;
  entries : length l.clocks ≡ length l.fn.clocks;
}
