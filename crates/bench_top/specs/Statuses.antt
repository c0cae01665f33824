-- The exit code of each status, and which statuses write nothing.
use Rattle.std.specs.Prelude.{ℕ}
use Rattle.bench_top.specs.declared.status.Status.{Status}
use Rattle.bench_top.specs.declared.status.Status.TheVariants.{Done, Usage, Refused, Unread, Unwritten, Memory, Spent}

abbrev pub code_of : Status → ℕ
code_of Done = 0
code_of Usage = 2
code_of (Refused refusal) = 3
code_of (Unread file) = 4
code_of Unwritten = 5
code_of Memory = 7
code_of Spent = 8

-- with these statuses nothing was written
abbrev pub WritesNothing : Status → Type 0
WritesNothing Usage = Unit {0}
WritesNothing (Refused refusal) = Unit {0}
WritesNothing (Unread file) = Unit {0}
WritesNothing Done = ⊥
WritesNothing Unwritten = ⊥
WritesNothing Memory = ⊥
WritesNothing Spent = ⊥
