use Rattle.std.proofs.Common.{◌≡◌, ◌≤◌, ◌+◌, ◌*◌, ◌++◌, Bool, List, drop}
use Rattle.frame_specs.specs.Bits.{bytes_bits}
use Rattle.frame_bits.specs.Counting.{Took}
use Rattle.frame_bits.proofs.counter.Counter.bytes.Given as goal

-- What was taken and what is left are the whole.
abbrev pub invariant-loop-byte : goal.invariant-loop-byte
invariant-loop-byte l = record {
  took : (bits : List Bool) → Took l.fn.self bits → (so_far : List Bool) × Took l.self so_far
      × (so_far ++ bytes_bits (drop l.byte-index l.bytes) ≡ bits ++ bytes_bits l.bytes);
  bound : 4 * l.self.count + l.self.run ≤ 4 * l.fn.self.count + l.fn.self.run + 40 * l.byte-index;
  grows : l.fn.self.count ≤ l.self.count;
}
