-- Worked frames, computed: lengths, checksums, durations, winners and texts.
-- The functions of a separate script, vectors/frames.py, give the same lengths, checksums and durations.
use Rattle.std.specs.Prelude.{◌≡◌, Bool, true, false, ℕ, List, [], ◌∷◌, ◌++◌, length, replicate, codes, refl}
use Rattle.frame_specs.specs.Bits.{number_bits}
use Rattle.frame_specs.specs.Frame.{Frame, Data, Remote, Fd}
use Rattle.frame_specs.specs.Wire.{raw, crc, stuff, stuff_open, stuffed, wire_bits, duration, time_of, ack_place}
use Rattle.frame_specs.specs.Dominance.{beats}
use Rattle.frame_specs.specs.FrameText.{frame_text}

abbrev pub base : ℕ → List ℕ → Frame
base id bytes = record { id = id; ext = false; kind = Data; bytes = bytes }

abbrev pub extended : ℕ → Frame
extended id = record { id = id; ext = true; kind = Data; bytes = [] }

abbrev pub remote : ℕ → Frame
remote id = record { id = id; ext = false; kind = Remote; bytes = [] }

abbrev pub extended_remote : ℕ → Frame
extended_remote id = record { id = id; ext = true; kind = Remote; bytes = [] }

abbrev pub fd : Bool → ℕ → List ℕ → Frame
fd brs id bytes = record { id = id; ext = false; kind = Fd brs false; bytes = bytes }

abbrev pub extended_fd : Bool → ℕ → List ℕ → Frame
extended_fd brs id bytes = record { id = id; ext = true; kind = Fd brs false; bytes = bytes }

-- identifier 0 and no data: 34 zeros and 6 stuff bits
pub zero_stuffed : length (stuffed (base 0 [])) ≡ 40
unfolding stuffed stuff
zero_stuffed = refl

pub zero_on_the_wire : wire_bits (base 0 []) ≡ 50
unfolding stuffed stuff
zero_on_the_wire = refl

pub zero_acknowledged : ack_place (base 0 []) ≡ 41
unfolding stuffed stuff
zero_acknowledged = refl

pub eight_zeros_crc : crc (raw (base 0 (replicate 8 0))) ≡ 0x145b
eight_zeros_crc = refl

pub eight_zeros_on_the_wire : wire_bits (base 0 (replicate 8 0)) ≡ 124
unfolding stuffed stuff
eight_zeros_on_the_wire = refl

pub high_identifier_crc : crc (raw (base 0x0ff [])) ≡ 0x4a80
high_identifier_crc = refl

pub high_identifier_on_the_wire : wire_bits (base 0x0ff []) ≡ 47
unfolding stuffed stuff
high_identifier_on_the_wire = refl

pub remote_crc : crc (raw (remote 0x100)) ≡ 0x4bcf
remote_crc = refl

pub remote_on_the_wire : wire_bits (remote 0x100) ≡ 46
unfolding stuffed stuff
remote_on_the_wire = refl

pub extended_crc : crc (raw (extended 0x4000000)) ≡ 0x6f34
extended_crc = refl

pub extended_on_the_wire : wire_bits (extended 0x4000000) ≡ 70
unfolding stuffed stuff
extended_on_the_wire = refl

pub other_extended_on_the_wire : wire_bits (extended 0x3fc0000) ≡ 71
unfolding stuffed stuff
other_extended_on_the_wire = refl

pub extended_remote_on_the_wire : wire_bits (extended_remote 0x4000000) ≡ 69
unfolding stuffed stuff
extended_remote_on_the_wire = refl

-- the last five CRC bits are equal: a stuff bit stands behind the last one
pub stuff_bit_behind_the_crc : length (stuffed (base 0x009 [])) ≡ 39
unfolding stuffed stuff
stuff_bit_behind_the_crc = refl

pub without_that_stuff_bit : (let bits = raw (base 0x009 []) in length (stuff_open (bits ++ number_bits 15 (crc bits)))) ≡ 38
unfolding stuff_open
without_that_stuff_bit = refl

pub stuff_bit_behind_the_crc_on_the_wire : wire_bits (base 0x009 []) ≡ 49
unfolding stuffed stuff
stuff_bit_behind_the_crc_on_the_wire = refl

-- an FD frame with no data: 25 stuffed bits, 27 of the CRC field, 10 of the tail
pub fd_empty : wire_bits (fd false 0 []) ≡ 62
unfolding stuffed stuff_open
fd_empty = refl

-- with a bit rate switch: 19 nominal, 32 data and 10 nominal bits
pub fd_fast : duration (fd true 0 []) 2000 500 ≡ 74000
unfolding duration stuffed stuff_open
fd_fast = refl

pub fd_eight_fives : duration (fd true 0x300 (replicate 8 0x55)) 2000 500 ≡ 106000
unfolding duration stuffed stuff_open
fd_eight_fives = refl

-- over 16 bytes the CRC field has 32 bits; no stuff bit stands behind the five equal bits at the end of the data
pub fd_twenty_zeros_stuffed : length (stuffed (fd false 0 (replicate 20 0))) ≡ 215
unfolding stuffed stuff_open
fd_twenty_zeros_stuffed = refl

pub fd_twenty_zeros_on_the_wire : wire_bits (fd false 0 (replicate 20 0)) ≡ 257
unfolding stuffed stuff_open
fd_twenty_zeros_on_the_wire = refl

pub extended_fd_stuffed : length (stuffed (extended_fd true 0x12345678 (replicate 20 0))) ≡ 232
unfolding stuffed stuff_open
extended_fd_stuffed = refl

pub extended_fd_on_the_wire : wire_bits (extended_fd true 0x12345678 (replicate 20 0)) ≡ 274
unfolding stuffed stuff_open
extended_fd_on_the_wire = refl

-- 36 nominal bits up to the bit rate switch, 228 data bits and 10 nominal bits
pub extended_fd_fast : duration (extended_fd true 0x12345678 (replicate 20 0)) 2000 500 ≡ 206000
unfolding duration stuffed stuff_open
extended_fd_fast = refl

-- the end of the ACK slot
pub zero_slot_ends : time_of (base 0 []) 41 2000 500 ≡ 84000
unfolding time_of stuffed stuff
zero_slot_ends = refl

pub base_beats_extended : beats (base 0x100 []) (extended 0x4000000) ≡ true
unfolding beats
base_beats_extended = refl

pub extended_beats_base : beats (extended 0x3fc0000) (base 0x100 []) ≡ true
unfolding beats
extended_beats_base = refl

pub data_beats_remote : beats (base 0x100 []) (remote 0x100) ≡ true
unfolding beats
data_beats_remote = refl

pub text_with_data : frame_text (base 0x123 (10 ∷ 11 ∷ [])) ≡ codes "123#0a0b"
text_with_data = refl

pub text_of_an_fd_frame : frame_text (fd true 0x123 (0x11 ∷ 0x22 ∷ 0x33 ∷ [])) ≡ codes "123##1112233"
text_of_an_fd_frame = refl

pub text_of_an_extended_frame : frame_text (extended 0x4000000) ≡ codes "04000000#"
text_of_an_extended_frame = refl
