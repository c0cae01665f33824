use Rattle.std.proofs.Common.{◌≡◌, ◌++◌, List, ℕ, take, drop}
use Rattle.bench_outside.specs.MemShelf.{put_file}
use Rattle.bench_outside.proofs.mem_shelf.position_of.Given as goal

-- a put leaves the entries so far
abbrev pub invariant-loop-i : goal.invariant-loop-i
invariant-loop-i l =
    (bytes : List ℕ) → put_file l.entries l.name bytes
    ≡ take l.i l.entries ++ put_file (drop l.i l.entries) l.name bytes
