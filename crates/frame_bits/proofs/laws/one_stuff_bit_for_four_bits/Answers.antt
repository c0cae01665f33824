use Rattle.std.proofs.Common.{◌≤◌, ◌+◌, ◌-◌, ◌/◌, ◌++◌, Bool, List, length}
use Rattle.frame_specs.specs.Bits.{number_bits}
use Rattle.frame_specs.specs.Frame.{Frame, Kind, Data, Remote, Fd}
use Rattle.frame_specs.specs.Wire.{raw, crc, stuffed, stuffed_as}
use Rattle.frame_bits.specs.Unstuffed.{unstuffed, with_crc}
use Rattle.frame_bits.proofs.StuffingLaws.{most, most-open, least, least-open}
use Rattle.frame_bits.proofs.laws.one_stuff_bit_for_four_bits.Goals as goal

least-as : (kind : Kind) (bits : List Bool) → length (with_crc kind bits) ≤ length (stuffed_as kind bits)
least-as (Fd brs esi) bits = least-open bits
least-as Data bits = least (bits ++ number_bits 15 (crc bits))
least-as Remote bits = least (bits ++ number_bits 15 (crc bits))

most-as : (kind : Kind) (bits : List Bool) → length (stuffed_as kind bits) ≤ length (with_crc kind bits) + (length (with_crc kind bits) - 1) / 4
most-as (Fd brs esi) bits = most-open bits
most-as Data bits = most (bits ++ number_bits 15 (crc bits))
most-as Remote bits = most (bits ++ number_bits 15 (crc bits))

least-stuffed : (f : Frame) → length (unstuffed f) ≤ length (stuffed f)
unfolding stuffed
least-stuffed f = least-as f.kind (raw f)

most-stuffed : (f : Frame) → length (stuffed f) ≤ length (unstuffed f) + (length (unstuffed f) - 1) / 4
unfolding stuffed
most-stuffed f = most-as f.kind (raw f)

pub returns-clause-least : goal.returns-clause-least
returns-clause-least c = least-stuffed

pub returns-clause-most : goal.returns-clause-most
returns-clause-most c = most-stuffed
