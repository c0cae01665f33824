use Rattle.std.proofs.Common.{◌≡◌, ◌≤◌, ◌+◌, ◌*◌, ◌++◌, Bool, List}
use Rattle.frame_specs.specs.Bits.{number_bits}
use Rattle.frame_bits.specs.Counting.{Took}
use Rattle.frame_bits.proofs.counter.Counter.number.Given as goal

-- What was taken and what is left are the whole.
abbrev pub invariant-loop-left : goal.invariant-loop-left
invariant-loop-left l = record {
  took : (bits : List Bool) → Took l.fn.self bits → (so_far : List Bool) × Took l.self so_far
      × (so_far ++ number_bits l.left l.value ≡ bits ++ number_bits l.width l.value);
  left : l.left ≤ l.width;
  bound : 4 * l.self.count + l.self.run + 5 * l.left ≤ 4 * l.fn.self.count + l.fn.self.run + 5 * l.width;
  grows : l.fn.self.count ≤ l.self.count;
}

abbrev pub decreases-loop-left : goal.decreases-loop-left
decreases-loop-left l = l.left
