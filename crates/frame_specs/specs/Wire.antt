-- A frame on the wire: its bits, stuffing, and times (ISO 11898-1, frame formats, CRC sequence and bit stuffing).
use Rattle.std.specs.Prelude.{ℕ, ◌+◌, ◌-◌, ◌*◌, ◌/◌, ◌%◌, ◌==◌, ◌^◌, Bool, true, false, not, List, [], ◌∷◌, ◌++◌, length, take, replicate, sum, fold, reverse, position, unwrap_or, if◌then◌else◌, nat_le, bit_xor}
use Rattle.std.specs.Bool.{beq}
use Rattle.frame_specs.specs.Bits.{number_bits, bytes_bits, bit, dominant, recessive}
use Rattle.frame_specs.specs.Frame.{Frame, Kind, Data, Remote, Fd, lengths}

-- RTR, and RRS in its place in an FD frame
abbrev pub remote_bit : Kind → Bool
remote_bit Data = dominant
remote_bit Remote = recessive
remote_bit (Fd brs esi) = dominant

-- The bits that arbitrate: identifier, RTR and IDE in base format;
-- high identifier bits, SRR, IDE, low identifier bits and RTR in extended format.
abbrev pub arbitration_field : Bool → ℕ → Bool → List Bool
arbitration_field false id remote = number_bits 11 id ++ remote ∷ dominant ∷ []
arbitration_field true id remote = number_bits 11 (id / 2 ^ 18) ++ recessive ∷ recessive ∷ number_bits 18 id ++ remote ∷ []

abbrev pub arbitration_bits : Frame → List Bool
arbitration_bits f = arbitration_field f.ext f.id (remote_bit f.kind)

-- The reserved bits of a classical frame; FDF, res and BRS of an FD frame.
abbrev pub format_bits : Kind → Bool → List Bool
format_bits (Fd brs esi) ext = recessive ∷ dominant ∷ brs ∷ []
format_bits Data false = dominant ∷ []
format_bits Data true = dominant ∷ dominant ∷ []
format_bits Remote false = dominant ∷ []
format_bits Remote true = dominant ∷ dominant ∷ []

-- ESI of an FD frame
abbrev pub error_state : Kind → List Bool
error_state (Fd brs esi) = esi ∷ []
error_state Data = []
error_state Remote = []

-- the data length code: the place of the length among the lengths
abbrev pub dlc : Frame → ℕ
dlc f = unwrap_or (position (λ l. l == length f.bytes) lengths) 0

-- the bits from SOF to the last reserved bit, of an FD frame to its BRS
abbrev pub head : Frame → List Bool
head f = dominant ∷ arbitration_bits f ++ format_bits f.kind f.ext

-- the bits before the CRC field, with no stuff bits
abbrev pub raw : Frame → List Bool
raw f = head f ++ error_state f.kind ++ number_bits 4 (dlc f) ++ bytes_bits f.bytes

-- the remainder so far, and one more bit: the polynomial is subtracted where the highest bits differ
abbrev pub crc_step : ℕ → Bool → ℕ
crc_step crc b = let shifted = (2 * crc) % 2 ^ 15 in if beq (bit crc 14) b then shifted else bit_xor shifted 0x4599

-- the CRC sequence of a classical frame: the remainder of 15 bits
abbrev pub crc : List Bool → ℕ
crc bits = fold crc_step 0 bits

-- how many equal bits stand in front
abbrev pub run : List Bool → ℕ
run [] = 0
run (a ∷ []) = 1
run (a ∷ b ∷ bits) = if beq a b then run (b ∷ bits) + 1 else 1

-- the bit in front
abbrev pub front : List Bool → Bool
front [] = recessive
front (b ∷ bits) = b

-- what was written, the newest bit first, with the stuff bit that is due behind five equal bits
abbrev pub settle : List Bool → List Bool
settle written = if run written == 5 then not (front written) ∷ written else written

-- one more bit behind it
abbrev pub put : List Bool → Bool → List Bool
put written b = b ∷ settle written

-- the bits with the complement behind each fifth equal bit of what was written, but for the last bit
unfoldable pub stuff_open : List Bool → List Bool
stuff_open bits = reverse (fold put [] bits)

-- the same with one that is due behind the last bit
unfoldable pub stuff : List Bool → List Bool
stuff bits = reverse (settle (fold put [] bits))

abbrev pub stuffed_as : Kind → List Bool → List Bool
stuffed_as (Fd brs esi) bits = stuff_open bits
stuffed_as Data bits = stuff (bits ++ number_bits 15 (crc bits))
stuffed_as Remote bits = stuff (bits ++ number_bits 15 (crc bits))

-- what stands on the wire up to the last CRC bit, or of an FD frame up to the last data bit
unfoldable pub stuffed : Frame → List Bool
stuffed f = stuffed_as f.kind (raw f)

-- The bits of the CRC field of an FD frame: stuff count, 17 or 21 CRC bits, fixed stuff bits.
-- That of a classical frame is in what is stuffed.
abbrev pub field_bits : Kind → ℕ → ℕ
field_bits (Fd brs esi) size = if nat_le size 16 then 27 else 32
field_bits Data size = 0
field_bits Remote size = 0

-- the bits before the tail
abbrev pub body_bits : Frame → ℕ
body_bits f = length (stuffed f) + field_bits f.kind (length f.bytes)

-- the tail: CRC delimiter, ACK slot, ACK delimiter and the seven bits of end of frame
abbrev pub tail_bits : ℕ
tail_bits = 10

abbrev pub wire_bits : Frame → ℕ
wire_bits f = body_bits f + tail_bits

-- the place of the ACK slot, the ninth bit from the end
abbrev pub ack_place : Frame → ℕ
ack_place f = wire_bits f - 9

-- so many bits of which the first last n ticks, and those behind them d ticks
abbrev pub spread : ℕ → ℕ → ℕ → ℕ → List ℕ
spread slow bits n d = replicate slow n ++ replicate (bits - slow) d

-- Where BRS is recessive, the bits behind it, up to the last bit of the CRC field, last one data bit time each.
abbrev pub body_times : Kind → Frame → ℕ → ℕ → List ℕ
body_times (Fd true esi) f n d = spread (length (stuff_open (head f))) (body_bits f) n d
body_times (Fd false esi) f n d = replicate (body_bits f) n
body_times Data f n d = replicate (body_bits f) n
body_times Remote f n d = replicate (body_bits f) n

-- one number of ticks for each wire bit, where a nominal bit lasts n ticks and a data bit d
abbrev pub times : Frame → ℕ → ℕ → List ℕ
times f n d = body_times f.kind f n d ++ replicate tail_bits n

-- from the start of SOF to the end of wire bit k
unfoldable pub time_of : Frame → ℕ → ℕ → ℕ → ℕ
time_of f k n d = sum (take (k + 1) (times f n d))

-- from the start of SOF to the end of the last bit of end of frame
unfoldable pub duration : Frame → ℕ → ℕ → ℕ
duration f n d = sum (times f n d)
