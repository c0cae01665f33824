use Rattle.std.proofs.Common.{◌≡◌, ◌≤◌, ◌+◌, length}
use Rattle.plain_text.specs.Parts.{parts}
use Rattle.play_file.specs.Walk.{walk_lines}
use Rattle.play_file.proofs.reading.read_lines.Given as goal

-- What is left leads to the whole. A line has a byte at least.
abbrev pub invariant-loop-line : goal.invariant-loop-line
invariant-loop-line l = record {
  whole : walk_lines l.number l.draft (parts 10 l.rest) ≡ walk_lines 2 l.fn.header (parts 10 l.text);
  counted : l.number + length l.rest ≤ 2 + length l.text;
}

abbrev pub decreases-loop-line : goal.decreases-loop-line
decreases-loop-line l = length l.rest
