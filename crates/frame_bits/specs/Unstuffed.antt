-- The bits of a frame that are stuffed, before that.
use Rattle.std.specs.Prelude.{Bool, List, ◌++◌}
use Rattle.frame_specs.specs.Bits.{number_bits}
use Rattle.frame_specs.specs.Frame.{Frame, Kind, Data, Remote, Fd}
use Rattle.frame_specs.specs.Wire.{raw, crc}

-- with their CRC, but in an FD frame, whose CRC isn't stuffed
abbrev pub with_crc : Kind → List Bool → List Bool
with_crc (Fd brs esi) bits = bits
with_crc Data bits = bits ++ number_bits 15 (crc bits)
with_crc Remote bits = bits ++ number_bits 15 (crc bits)

abbrev pub unstuffed : Frame → List Bool
unstuffed f = with_crc f.kind (raw f)
