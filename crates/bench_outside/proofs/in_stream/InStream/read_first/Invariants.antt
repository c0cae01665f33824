use Rattle.std.proofs.Common.{◌≡◌, ◌+◌, length}
use Rattle.std.specs.Io.KnownBytes.{Consumes}
use Rattle.bench_outside.proofs.in_stream.InStream.read_first.Given as goal

-- What was read stood in front of what is left to be read, and as many bytes more may be read.
-- No read failed.
abbrev pub invariant-loop-left : goal.invariant-loop-left
invariant-loop-left g l =
    (length l.bytes.items + l.left ≡ l.fn.cap)
    × Consumes (g.R.Read.remaining l.initial.self.reader) (g.R.Read.remaining l.self.reader)
    l.bytes.items
    × (l.self.faults ≡ l.initial.self.faults)

abbrev pub decreases-loop-left : goal.decreases-loop-left
decreases-loop-left g l = l.left
