use Rattle.std.proofs.Common.{◌≡◌, ◌+◌, ◌++◌, length, vec_len, vec_capacity}
use Rattle.bus_medium.proofs.finishing.append.Given as goal

abbrev pub invariant-loop-line : goal.invariant-loop-line
invariant-loop-line l = record {
  items : l.lines.items ≡ l.fn.lines.items ++ l.yielded;
  len : vec_len l.lines ≡ vec_len l.fn.lines + length l.yielded;
  room : vec_capacity l.lines ≡ vec_capacity l.fn.lines;
}
