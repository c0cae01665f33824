use Rattle.std.proofs.Common.{◌≡◌, ◌≤◌, ◌+◌, ◌*◌, ◌++◌, Bool, List}
use Rattle.frame_specs.specs.Bits.{number_bits}
use Rattle.frame_bits.specs.Listing.{Lists}
use Rattle.frame_bits.proofs.listing.Lister.number.Given as goal

-- What was taken and what is left are the whole.
abbrev pub invariant-loop-left : goal.invariant-loop-left
invariant-loop-left l = record {
  lists : (bits : List Bool) → Lists l.fn.self bits → (so_far : List Bool) × Lists l.self so_far
      × (so_far ++ number_bits l.left l.value ≡ bits ++ number_bits l.width l.value);
  left : l.left ≤ l.width;
  bound : 4 * l.self.counter.count + l.self.counter.run + 5 * l.left ≤ 4 * l.fn.self.counter.count + l.fn.self.counter.run + 5 * l.width;
  grows : l.fn.self.counter.count ≤ l.self.counter.count;
}

abbrev pub decreases-loop-left : goal.decreases-loop-left
decreases-loop-left l = l.left
