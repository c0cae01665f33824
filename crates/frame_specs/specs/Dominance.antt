-- Which frame wins (ISO 11898-1, bitwise arbitration): the one with the dominant bit where two first differ.
use Rattle.std.specs.Prelude.{Bool, false, not, List, [], ◌∷◌, if◌then◌else◌}
use Rattle.std.specs.Bool.{beq}
use Rattle.frame_specs.specs.Frame.{Frame}
use Rattle.frame_specs.specs.Wire.{arbitration_bits}

-- the first bits are dominant at the first place where the two differ
abbrev pub comes_first : List Bool → List Bool → Bool
comes_first [] bs = false
comes_first (a ∷ as') [] = false
comes_first (a ∷ as') (b ∷ bs) = if beq a b then comes_first as' bs else not a

unfoldable pub beats : Frame → Frame → Bool
beats f g = comes_first (arbitration_bits f) (arbitration_bits g)
