-- Bits without their stuff bits (ISO 11898-1, bit stuffing).
use Rattle.std.specs.Prelude.{◌≡◌, refl, ℕ, ◌+◌, ◌==◌, Bool, true, false, List, [], ◌∷◌, ◌++◌, replicate, if◌then◌else◌}
use Rattle.std.specs.Bool.{beq}
use Rattle.frame_specs.specs.Bits.{recessive}

-- What is left of bits that stand behind so many equal bits of a level: behind five the next one is a
-- stuff bit, which is dropped, whichever it is, and begins a run of one.
abbrev pub unstuffed_behind : Bool → ℕ → List Bool → List Bool
unstuffed_behind level count [] = []
unstuffed_behind level count (b ∷ bits) =
    if count == 5 then unstuffed_behind b 1 bits else b ∷ unstuffed_behind b (if beq b level then count + 1 else 1) bits

-- before the first bit the bus is recessive, and no bit is counted
abbrev pub unstuffed : List Bool → List Bool
unstuffed bits = unstuffed_behind recessive 0 bits

-- what is stuffed so is got back
abbrev pub IsUndone : (List Bool → List Bool) → Type 0
IsUndone stuffing = (bits : List Bool) → unstuffed (stuffing bits) ≡ bits

-- the stuff bit behind five zeros is the first of five ones, and a second one stands behind them
pub two_dropped : unstuffed (replicate 5 false ++ true ∷ replicate 4 true ++ false ∷ true ∷ []) ≡ replicate 5 false ++ replicate 4 true ++ true ∷ []
two_dropped = refl

pub none_dropped : unstuffed (replicate 4 false ++ true ∷ replicate 4 false) ≡ replicate 4 false ++ true ∷ replicate 4 false
none_dropped = refl
