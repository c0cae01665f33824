use Rattle.std.proofs.Common.{◌≡◌, ◌≤◌, ◌-◌, length, take}
use Rattle.std.specs.Io.KnownBytes.{Appends}
use Rattle.bench_outside.proofs.out_sink.OutSinkSink.write.Given as goal

-- The bytes so far were written, and no write failed.
abbrev pub invariant-loop-at : goal.invariant-loop-at
invariant-loop-at g l =
    (l.at ≤ length l.bytes)
    × Appends (g.W.Write.contents l.initial.self.writer) (g.W.Write.contents l.self.writer)
    (take l.at l.bytes)
    × (l.self.faults ≡ l.initial.self.faults)

abbrev pub decreases-loop-at : goal.decreases-loop-at
decreases-loop-at g l = length l.bytes - l.at
