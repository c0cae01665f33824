-- Bits of numbers and of bytes, the highest first, as they go on the wire.
use Rattle.std.specs.Prelude.{ℕ, zero, suc, ◌^◌, ◌/◌, ◌%◌, ◌==◌, Bool, true, false, List, [], ◌∷◌, ◌++◌}

-- the two levels of a bus
abbrev pub dominant : Bool
dominant = false

abbrev pub recessive : Bool
recessive = true

-- the bit of a value at place k, counted from the lowest
abbrev pub bit : ℕ → ℕ → Bool
bit value k = ((value / 2 ^ k) % 2) == 1

-- the low bits of a value, the highest first
abbrev pub number_bits : ℕ → ℕ → List Bool
number_bits zero value = []
number_bits (suc width) value = bit value width ∷ number_bits width value

-- each byte, its highest bit first
abbrev pub bytes_bits : List ℕ → List Bool
bytes_bits [] = []
bytes_bits (byte ∷ bytes) = number_bits 8 byte ++ bytes_bits bytes
