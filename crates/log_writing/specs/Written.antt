-- What a call did that writes pieces to a sink: all of them, or it broke off. Clauses cite this at a bound `O: Sink`.
use Rattle.std.specs.Prelude.{◌≡◌, ◌≤◌, ℕ, List, Result, OnOk, IsErrOf}
use Rattle.bench_outside.specs.declared.sink.Sink.{Ghosts}
use Rattle.bench_outside.specs.Causes.{Rose}
use Rattle.bench_outside.specs.Pieces.{WritesAll, BreaksOff, StopsBefore}
use Rattle.log_writing.specs.declared.ending.RunError.{RunError}
use Rattle.log_writing.specs.declared.ending.RunError.TheVariants.{Unwritten, Memory}

-- Each piece is one write. An error of its own comes of a write that failed, and another of want of memory.
pub record WritesOrBreaksOff {S T : Type 0} (sink : Ghosts S) (old new : S) (pieces : List (List ℕ)) (result : Result T RunError) : Type 0 where
  -- with Ok all stand there
  pub log : OnOk result (WritesAll sink old new pieces)
  -- where a write failed: the pieces before it, a first part of its own, and nothing behind it
  pub part : IsErrOf result Unwritten → BreaksOff sink old new pieces
  -- for want of memory: whole pieces
  pub stopped : IsErrOf result Memory → StopsBefore sink old new pieces
  -- Unwritten comes only where the sink counted a fault, and it counted none where another answer comes
  pub unwritten : IsErrOf result Unwritten → Rose (sink.faults old) (sink.faults new)
  pub memory : IsErrOf result Memory → sink.faults new ≡ sink.faults old
  pub kept : OnOk result (sink.faults new ≡ sink.faults old)
  -- the count of faults never falls
  pub later : sink.faults old ≤ sink.faults new
