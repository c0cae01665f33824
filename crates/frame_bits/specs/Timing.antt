-- How many of a frame's bits last one nominal bit time before the fast ones.
use Rattle.std.specs.Prelude.{ℕ, true, false, length}
use Rattle.frame_specs.specs.Frame.{Frame, Kind, Data, Remote, Fd}
use Rattle.frame_specs.specs.Wire.{head, stuff_open, body_bits}

-- up to BRS where it is recessive, else up to the tail
abbrev pub slow_bits_as : Kind → Frame → ℕ
slow_bits_as (Fd true esi) f = length (stuff_open (head f))
slow_bits_as (Fd false esi) f = body_bits f
slow_bits_as Data f = body_bits f
slow_bits_as Remote f = body_bits f

abbrev pub slow_bits : Frame → ℕ
slow_bits f = slow_bits_as f.kind f
