use Rattle.std.proofs.Common.{◌≡◌, drop}
use Rattle.bench_outside.specs.MemShelf.{file_at}
use Rattle.bench_outside.proofs.mem_shelf.find.Given as goal

-- no entry so far has the name
abbrev pub invariant-loop-entry : goal.invariant-loop-entry
invariant-loop-entry l = file_at (drop l.entry-index l.entries) l.name ≡ file_at l.entries l.name
