-- Stuffings and CRC fields that are wrong in one thing.
use Rattle.std.specs.Prelude.{◌≡◌, refl, ℕ, ◌+◌, ◌==◌, Bool, true, false, not, List, [], ◌∷◌, ◌++◌, replicate, reverse, fold, if◌then◌else◌}
use Rattle.std.specs.Bool.{beq}
use Rattle.frame_specs.specs.Bits.{number_bits, recessive}
use Rattle.frame_specs.specs.Wire.{crc, run, front}

-- a stuff bit isn't counted in the run behind it: only the bits themselves are
abbrev pub stuff_behind : Bool → ℕ → List Bool → List Bool
stuff_behind level count [] = []
stuff_behind level count (b ∷ bits) =
    let next = if beq b level then count + 1 else 1 in
    if next == 5 then b ∷ not b ∷ stuff_behind b 0 bits else b ∷ stuff_behind b next bits

abbrev pub stuff_uncounted : List Bool → List Bool
stuff_uncounted bits = stuff_behind recessive 0 bits

-- so the next one comes behind six ones, the first of them a stuff bit
pub six_ones : stuff_uncounted (replicate 5 false ++ replicate 5 true) ≡ replicate 5 false ++ true ∷ replicate 5 true ++ false ∷ []
six_ones = refl

-- a stuff bit comes behind six equal bits
abbrev pub put_at_six : List Bool → Bool → List Bool
put_at_six written b = b ∷ (if run written == 6 then not (front written) ∷ written else written)

abbrev pub stuff_at_six : List Bool → List Bool
stuff_at_six bits = reverse (fold put_at_six [] bits)

-- the lowest bit goes first
abbrev pub crc_lowest_first : List Bool → List Bool
crc_lowest_first bits = reverse (number_bits 15 (crc bits))

-- the highest bit is left out
abbrev pub crc_one_bit_short : List Bool → List Bool
crc_one_bit_short bits = number_bits 14 (crc bits)
