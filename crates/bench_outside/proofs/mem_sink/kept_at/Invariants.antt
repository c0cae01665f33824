use Rattle.std.proofs.Common.{◌≡◌, drop}
use Rattle.bench_outside.specs.MemSink.{kept_at}
use Rattle.bench_outside.proofs.mem_sink.kept_at.Given as goal

-- no entry so far is of this number
abbrev pub invariant-loop-n : goal.invariant-loop-n
invariant-loop-n l = kept_at (drop l.n-index l.failing) l.number ≡ kept_at l.failing l.number
