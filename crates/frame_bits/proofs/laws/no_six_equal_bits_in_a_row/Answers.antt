use Rattle.std.proofs.Common.{◌++◌, Bool, List}
use Rattle.frame_specs.specs.Bits.{number_bits}
use Rattle.frame_specs.specs.Frame.{Frame, Kind, Data, Remote, Fd}
use Rattle.frame_specs.specs.Wire.{raw, crc, stuffed, stuffed_as}
use Rattle.frame_bits.proofs.StuffingLaws.{HasNoSix, no-six, no-six-open}
use Rattle.frame_bits.proofs.laws.no_six_equal_bits_in_a_row.Goals as goal

no-six-as : (kind : Kind) (bits : List Bool) → HasNoSix (stuffed_as kind bits)
no-six-as (Fd brs esi) bits = no-six-open bits
no-six-as Data bits = no-six (bits ++ number_bits 15 (crc bits))
no-six-as Remote bits = no-six (bits ++ number_bits 15 (crc bits))

no-six-stuffed : (f : Frame) → HasNoSix (stuffed f)
unfolding stuffed
no-six-stuffed f = no-six-as f.kind (raw f)

pub returns : goal.returns
returns c = no-six-stuffed
