-- The arbitration bits of a frame as one number, whose order is the order of dominance.
use Rattle.std.specs.Prelude.{◌≡◌, ℕ, zero, suc, ◌+◌, ◌*◌, ◌/◌, ◌%◌, ◌^◌, Bool, true, false, List, [], ◌∷◌, if◌then◌else◌, refl}
use Rattle.frame_specs.specs.Frame.{Frame, Data}
use Rattle.frame_specs.specs.Wire.{arbitration_bits}

-- bits as a number of this many bits, the highest first: dominant is 0, and dominant bits stand behind the last
unfoldable pub number_of : ℕ → List Bool → ℕ
number_of width [] = 0
number_of zero (b ∷ bits) = 0
number_of (suc width) (b ∷ bits) = (if b then 2 ^ width else 0) + number_of width bits

-- the 32 arbitration bits of an extended frame, or the 13 of a base frame and dominant bits
unfoldable pub key_of : Frame → ℕ
key_of f = number_of 32 (arbitration_bits f)

-- The parts of a key as the code computes it: no public clause cites these two.
abbrev pub base_number : ℕ → Bool → ℕ
base_number id remote = id * 2 ^ 21 + (if remote then 1 else 0) * 2 ^ 20

abbrev pub extended_number : ℕ → Bool → ℕ
extended_number id remote = id / 2 ^ 18 * 2 ^ 21 + 3 * 2 ^ 19 + id % 2 ^ 18 * 2 + (if remote then 1 else 0)

abbrev base : ℕ → Frame
base id = record { id = id; ext = false; kind = Data; bytes = [] }

abbrev extended : ℕ → Frame
extended id = record { id = id; ext = true; kind = Data; bytes = [] }

-- base 100
base_key : key_of (base 0x100) ≡ 0x20000000
unfolding key_of number_of
base_key = refl

-- the same high bits, and then a recessive SRR and IDE
extended_key : key_of (extended 0x4000000) ≡ 0x20180000
unfolding key_of number_of
extended_key = refl

extended_below_base : key_of (extended 0x3fc0000) ≡ 0x1ff80000
unfolding key_of number_of
extended_below_base = refl
