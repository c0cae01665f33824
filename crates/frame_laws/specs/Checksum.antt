-- Bits with the CRC sequence of a classical frame behind them (ISO 11898-1, CRC sequence).
use Rattle.std.specs.Prelude.{◌≡◌, refl, Bool, true, List, [], ◌∷◌, ◌++◌}
use Rattle.frame_specs.specs.Bits.{number_bits}
use Rattle.frame_specs.specs.Frame.{Kind, Data, Remote, Fd}
use Rattle.frame_specs.specs.Wire.{crc}

-- the CRC sequence, the highest bit first
abbrev pub crc_bits : List Bool → List Bool
crc_bits bits = number_bits 15 (crc bits)

-- With such a field behind any bits the remainder is 0.
abbrev pub LeavesNothing : (List Bool → List Bool) → Type 0
LeavesNothing field = (bits : List Bool) → crc (bits ++ field bits) ≡ 0

-- what stuffing covers of a frame: its bits before the CRC field, and the CRC of a classical frame
abbrev pub covered : Kind → List Bool → List Bool
covered (Fd brs esi) bits = bits
covered Data bits = bits ++ crc_bits bits
covered Remote bits = bits ++ crc_bits bits

abbrev pub IsClassical : Kind → Type 0
IsClassical (Fd brs esi) = ⊥
IsClassical Data = Unit
IsClassical Remote = Unit

-- one recessive bit leaves the polynomial, and with it behind nothing
pub one_bit : crc (true ∷ []) ≡ 0x4599
one_bit = refl

pub one_bit_whole : crc (true ∷ number_bits 15 0x4599) ≡ 0
one_bit_whole = refl
