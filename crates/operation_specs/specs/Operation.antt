-- The operations that a node and a bus exchange, as data (after the CAN part of FMI-LS-BUS).
use Rattle.std.specs.Prelude.{◌≡◌, ℕ, ◌^◌, ◌&&◌, Bool, true, not, List, length, nat_lt, nat_le}
use Rattle.frame_specs.specs.Frame.{Frame, is_well_formed, is_fd}

-- a fault confinement state that a node declares
pub data Declared : Type 0 where
  Active Passive Off : Declared

-- What a node configures: a bit rate, or what becomes of a frame that loses arbitration.
pub data Parameter : Type 0 where
  Rate FdRate : ℕ → Parameter
  Keep Discard : Parameter

-- A bus error has the identifier of its frame, its kind (1 bit, 2 stuffing, 3 form, 4 CRC, 5 acknowledgement),
-- whether this node detected it first, and whether this node sent the frame.
pub data Operation : Type 0 where
  FormatError : List ℕ → Operation
  Transmit FdTransmit : Frame → Operation
  Confirm ArbitrationLost : ℕ → Operation
  BusError : (id kind : ℕ) (primary sender : Bool) → Operation
  Configuration : Parameter → Operation
  Status : Declared → Operation
  Wakeup Sleep : Operation

-- The fields go together: a length that 16 bits hold, the frame that the transmit is for, a kind of error that there is.
abbrev pub is_valid : Operation → Bool
is_valid (FormatError bytes) = nat_le (length bytes) 65535
is_valid (Transmit f) = not (is_fd f.kind)
is_valid (FdTransmit f) = is_fd f.kind
is_valid (Confirm id) = true
is_valid (ArbitrationLost id) = true
is_valid (BusError id kind primary sender) = nat_le 1 kind && nat_le kind 5
is_valid (Configuration parameter) = true
is_valid (Status declared) = true
is_valid Wakeup = true
is_valid Sleep = true

abbrev pub parameter_fits : Parameter → Bool
parameter_fits (Rate rate) = nat_lt rate (2 ^ 32)
parameter_fits (FdRate rate) = nat_lt rate (2 ^ 32)
parameter_fits Keep = true
parameter_fits Discard = true

-- its numbers have 32 bits, and its frame can stand on the wire
abbrev pub fits : Operation → Bool
fits (FormatError bytes) = true
fits (Transmit f) = is_well_formed f
fits (FdTransmit f) = is_well_formed f
fits (Confirm id) = nat_lt id (2 ^ 32)
fits (ArbitrationLost id) = nat_lt id (2 ^ 32)
fits (BusError id kind primary sender) = nat_lt id (2 ^ 32)
fits (Configuration parameter) = parameter_fits parameter
fits (Status declared) = true
fits Wakeup = true
fits Sleep = true

-- an operation that can be written
pub record IsOperation (op : Operation) : Type 0 where
  pub valid : is_valid op ≡ true
  pub in_range : fits op ≡ true
