-- What counting keeps of the bits that were written.
use Rattle.std.specs.Prelude.{◌≡◌, ◌≤◌, ◌+◌, ◌*◌, Bool, ℕ, List, [], length, fold}
use Rattle.frame_specs.specs.Wire.{run, front, put, crc}
use Rattle.frame_specs.specs.Frame.{Kind, Data, Remote, Fd}
use Rattle.frame_bits.specs.declared.counter.Counter.{Counter}

-- The counter is that of what was written, the newest bit first.
pub record Counts (c : Counter) (written : List Bool) : Type 0 where
  pub run_is : c.run ≡ run written
  pub last_is : c.last ≡ front written
  pub count_is : c.count ≡ length written

-- These bits went in, and were written with their stuff bits.
pub record Took (c : Counter) (bits : List Bool) : Type 0 where
  pub counts : Counts c (fold put [] bits)
  pub crc_is : c.crc ≡ crc bits

-- So many bits were taken: each fifth equal bit that was written leaves room for one more.
pub record Grew (before now : Counter) (bits : ℕ) : Type 0 where
  pub bound : 4 * now.count + now.run ≤ 4 * before.count + before.run + 5 * bits
  pub grows : before.count ≤ now.count

-- the CRC bits that are stuffed
abbrev pub stuffed_crc_bits : Kind → ℕ
stuffed_crc_bits (Fd brs esi) = 0
stuffed_crc_bits Data = 15
stuffed_crc_bits Remote = 15
