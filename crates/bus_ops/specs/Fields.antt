-- How the bytes of one operation are taken apart, as the code does it.
-- Public clauses stand on it by way of items_in, as the clause `items` of read_ops does. That items_in gives the
-- one reading of bytes below 256 is the law `bytes_have_a_reading`; what a reading is says nothing of this module.
use Rattle.std.specs.Prelude.{ℕ, ◌==◌, ◌&&◌, Bool, true, false, List, [], ◌∷◌, length, Option, Some, None, option_and_then, option_map, nat_le, if◌then◌else◌}
use Rattle.std.specs.Int.{w16, w32, from_le_bytes}
use Rattle.frame_specs.specs.Frame.{Frame, Data, Remote, Fd, is_well_formed}
use Rattle.operation_specs.specs.Operation.{Operation, FormatError, Transmit, FdTransmit, Confirm, ArbitrationLost, BusError, Configuration, Status, Wakeup, Sleep, Parameter, Rate, FdRate, Keep, Discard, Declared, Active, Passive, Off}

infixl 10 ◌>>=◌
abbrev pub ◌>>=◌ : {A B : Type 0} → Option A → (A → Option B) → Option B
o >>= f = option_and_then f o

-- a number of four bytes, and what stands behind it
abbrev pub number_at : List ℕ → Option (ℕ × List ℕ)
number_at (a ∷ b ∷ c ∷ d ∷ rest) = Some (from_le_bytes w32 (a ∷ b ∷ c ∷ d ∷ []), rest)
number_at bytes = None

-- a number and nothing behind it
unfoldable pub lone_number : List ℕ → Option ℕ
lone_number bytes = do
  n ← number_at bytes
  if length n.1 == 0 then Some n.0 else None

-- a number of two bytes, and exactly so many behind it
abbrev pub counted_at : List ℕ → Option (List ℕ)
counted_at (a ∷ b ∷ rest) = if length rest == from_le_bytes w16 (a ∷ b ∷ []) then Some rest else None
counted_at bytes = None

abbrev pub flag_at : ℕ → Option Bool
flag_at byte = if byte == 0 then Some false else if byte == 1 then Some true else None

-- primary or secondary
abbrev pub part_at : ℕ → Option Bool
part_at byte = if byte == 1 then Some true else if byte == 2 then Some false else None

unfoldable pub classical_behind : ℕ → List ℕ → Option Frame
classical_behind id (ide ∷ rtr ∷ rest) = do
  ext ← flag_at ide
  remote ← flag_at rtr
  bytes ← counted_at rest
  Some (record { id = id; ext = ext; kind = if remote then Remote else Data; bytes = bytes })
classical_behind id bytes = None

unfoldable pub fd_behind : ℕ → List ℕ → Option Frame
fd_behind id (ide ∷ switch ∷ indicator ∷ rest) = do
  ext ← flag_at ide
  brs ← flag_at switch
  esi ← flag_at indicator
  bytes ← counted_at rest
  Some (record { id = id; ext = ext; kind = Fd brs esi; bytes = bytes })
fd_behind id bytes = None

-- a frame that can stand on the wire
unfoldable pub checked : Frame → Option Frame
checked f = if is_well_formed f then Some f else None

unfoldable pub classical_at : List ℕ → Option Frame
classical_at fields = do
  n ← number_at fields
  classical_behind n.0 n.1

unfoldable pub fd_at : List ℕ → Option Frame
fd_at fields = do
  n ← number_at fields
  fd_behind n.0 n.1

unfoldable pub transmit_at : List ℕ → Option Operation
transmit_at fields = option_map Transmit (classical_at fields >>= checked)

unfoldable pub fd_transmit_at : List ℕ → Option Operation
fd_transmit_at fields = option_map FdTransmit (fd_at fields >>= checked)

unfoldable pub error_behind : ℕ → List ℕ → Option Operation
error_behind id (kind ∷ part ∷ sender ∷ []) = if nat_le 1 kind && nat_le kind 5 then (part_at part >>= λ primary. flag_at sender >>= λ sent. Some (BusError id kind primary sent)) else None
error_behind id bytes = None

unfoldable pub error_at : List ℕ → Option Operation
error_at fields = do
  n ← number_at fields
  error_behind n.0 n.1

abbrev pub behaviour_at : List ℕ → Option Parameter
behaviour_at (byte ∷ []) = if byte == 1 then Some Keep else if byte == 2 then Some Discard else None
behaviour_at bytes = None

unfoldable pub parameter_at : List ℕ → Option Parameter
parameter_at (tag ∷ rest) =
    if tag == 1 then option_map Rate (lone_number rest)
    else if tag == 2 then option_map FdRate (lone_number rest)
    else if tag == 4 then behaviour_at rest
    else None
parameter_at [] = None

abbrev pub declared_at : List ℕ → Option Declared
declared_at (byte ∷ []) = if byte == 1 then Some Active else if byte == 2 then Some Passive else if byte == 3 then Some Off else None
declared_at bytes = None

-- an operation with no fields
abbrev pub bare : Operation → List ℕ → Option Operation
bare op fields = if length fields == 0 then Some op else None

-- an operation that holds no bytes, by its code
unfoldable pub plain_at : ℕ → List ℕ → Option Operation
plain_at code fields =
    if code == 0x20 then option_map Confirm (lone_number fields)
    else if code == 0x30 then option_map ArbitrationLost (lone_number fields)
    else if code == 0x31 then error_at fields
    else if code == 0x40 then option_map Configuration (parameter_at fields)
    else if code == 0x41 then option_map Status (declared_at fields)
    else if code == 0x42 then bare Wakeup fields
    else if code == 0xf0 then bare Sleep fields
    else None

-- an operation by its code
unfoldable pub fields_at : ℕ → List ℕ → Option Operation
fields_at code fields =
    if code == 0x01 then option_map FormatError (counted_at fields)
    else if code == 0x10 then transmit_at fields
    else if code == 0x11 then fd_transmit_at fields
    else plain_at code fields

-- code, total length, fields
unfoldable pub operation_at : List ℕ → Option Operation
operation_at bytes = do
  code ← number_at bytes
  total ← number_at code.1
  if total.0 == length bytes then fields_at code.0 total.1 else None
