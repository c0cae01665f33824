-- What is wrong in one thing breaks a law.
use Rattle.std.proofs.Common.{◌-◌, arith, true, false, [], ◌∷◌, ◌++◌, replicate}
use Rattle.frame_specs.specs.Frame.{Data}
use Rattle.frame_specs.specs.Wire.{wire_bits, time_of, duration, stuffed, stuff}
use Rattle.frame_laws.specs.Unstuffing.{IsUndone}
use Rattle.frame_laws.specs.Checksum.{LeavesNothing}
use Rattle.frame_laws.specs.Times.{IsEnd}
use Rattle.frame_laws.specs.WrongBits as wrong

pub uncounted-refused : IsUndone wrong.stuff_uncounted → ⊥
uncounted-refused h = cc (h (replicate 5 false ++ replicate 4 true ++ false ∷ []))

pub six-refused : IsUndone wrong.stuff_at_six → ⊥
six-refused h = cc (h (replicate 6 false))

pub lowest-first-refused : LeavesNothing wrong.crc_lowest_first → ⊥
lowest-first-refused h = omega (arith, h (true ∷ []))

pub short-refused : LeavesNothing wrong.crc_one_bit_short → ⊥
short-refused h = omega (arith, h (true ∷ []))

-- of a frame with no data, where each bit lasts one tick
pub next-to-last-refused : IsEnd (λ f. wire_bits f - 2) → ⊥
unfolding time_of duration stuffed stuff
next-to-last-refused h = omega (arith, h (record { id = 0; ext = false; kind = Data; bytes = [] }) 1 1)
