use Rattle.std.proofs.Common.{◌≡◌, drop}
use Rattle.std.specs.Prelude.{find}
use Rattle.bus_specs.specs.Start.{applies}
use Rattle.bus_medium.proofs.course.first_entry.Given as goal

-- What is left to look at leads to the first of all.
abbrev pub invariant-loop-entry : goal.invariant-loop-entry
invariant-loop-entry l = find (applies l.attempt l.sender l.heard) (drop l.entry-index l.entries) ≡ find (applies l.attempt l.sender l.heard) l.entries
