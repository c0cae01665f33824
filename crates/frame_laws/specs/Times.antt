-- The end of a frame (ISO 11898-1, bit times).
use Rattle.std.specs.Prelude.{◌≡◌, ℕ}
use Rattle.frame_specs.specs.Frame.{Frame}
use Rattle.frame_specs.specs.Wire.{time_of, duration}

-- The wire bit at such a place of a frame ends when the frame does, however long nominal and data bits last.
abbrev pub IsEnd : (Frame → ℕ) → Type 0
IsEnd last = (f : Frame) (nominal data_bit : ℕ) → time_of f (last f) nominal data_bit ≡ duration f nominal data_bit
