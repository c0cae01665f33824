-- The text of a frame, for example 123#0a0b, 1fffffff#R, 123##1112233.
use Rattle.std.specs.Prelude.{ℕ, zero, suc, ◌+◌, ◌/◌, ◌%◌, ◌^◌, Bool, true, false, List, [], ◌∷◌, ◌++◌, flat_map, codes, if◌then◌else◌, nat_lt}
use Rattle.frame_specs.specs.Frame.{Frame, Kind, Data, Remote, Fd}

-- a hexadecimal digit in lower case
abbrev pub hex_digit : ℕ → ℕ
hex_digit n = if nat_lt n 10 then 48 + n else 87 + n

-- the last digits of a number
abbrev pub hex : ℕ → ℕ → List ℕ
hex zero n = []
hex (suc width) n = hex_digit ((n / 16 ^ width) % 16) ∷ hex width n

-- two digits a byte
abbrev pub hex_bytes : List ℕ → List ℕ
hex_bytes bytes = flat_map (hex 2) bytes

-- three digits in base format, eight in extended format
abbrev pub identifier_text : Bool → ℕ → List ℕ
identifier_text false id = hex 3 id
identifier_text true id = hex 8 id

abbrev pub flag : Bool → ℕ → ℕ
flag false n = 0
flag true n = n

-- the data; R for a remote frame; for an FD frame # and the digit of BRS and ESI before the data
abbrev pub data_text : Kind → List ℕ → List ℕ
data_text Data bytes = hex_bytes bytes
data_text Remote bytes = codes "R"
data_text (Fd brs esi) bytes = codes "#" ++ hex_digit (flag brs 1 + flag esi 2) ∷ hex_bytes bytes

abbrev pub frame_text : Frame → List ℕ
frame_text f = identifier_text f.ext f.id ++ codes "#" ++ data_text f.kind f.bytes
