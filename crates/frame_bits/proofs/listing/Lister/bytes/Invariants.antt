use Rattle.std.proofs.Common.{◌≡◌, ◌≤◌, ◌+◌, ◌*◌, ◌++◌, Bool, List, drop}
use Rattle.frame_specs.specs.Bits.{bytes_bits}
use Rattle.frame_bits.specs.Listing.{Lists}
use Rattle.frame_bits.proofs.listing.Lister.bytes.Given as goal

-- What was taken and what is left are the whole.
abbrev pub invariant-loop-byte : goal.invariant-loop-byte
invariant-loop-byte l = record {
  lists : (bits : List Bool) → Lists l.fn.self bits → (so_far : List Bool) × Lists l.self so_far
      × (so_far ++ bytes_bits (drop l.byte-index l.bytes) ≡ bits ++ bytes_bits l.bytes);
  bound : 4 * l.self.counter.count + l.self.counter.run ≤ 4 * l.fn.self.counter.count + l.fn.self.counter.run + 40 * l.byte-index;
  grows : l.fn.self.counter.count ≤ l.self.counter.count;
}
