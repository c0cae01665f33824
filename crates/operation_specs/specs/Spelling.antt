-- The bytes of an operation: a code of four bytes, the total length in four bytes, and the fields, each number with its lowest byte first.
use Rattle.std.specs.Prelude.{ℕ, ◌+◌, Bool, true, false, List, [], ◌∷◌, ◌++◌, length, if◌then◌else◌}
use Rattle.std.specs.Int.{w16, w32, to_le_bytes}
use Rattle.frame_specs.specs.Frame.{Kind, Data, Remote, Fd}
use Rattle.frame_specs.specs.Wire.{remote_bit}
use Rattle.operation_specs.specs.Operation.{Operation, FormatError, Transmit, FdTransmit, Confirm, ArbitrationLost, BusError, Configuration, Status, Wakeup, Sleep, Parameter, Rate, FdRate, Keep, Discard, Declared, Active, Passive, Off}

abbrev pub code_of : Operation → ℕ
code_of (FormatError bytes) = 0x01
code_of (Transmit f) = 0x10
code_of (FdTransmit f) = 0x11
code_of (Confirm id) = 0x20
code_of (ArbitrationLost id) = 0x30
code_of (BusError id kind primary sender) = 0x31
code_of (Configuration parameter) = 0x40
code_of (Status declared) = 0x41
code_of Wakeup = 0x42
code_of Sleep = 0xf0

abbrev pub flag : Bool → ℕ
flag false = 0
flag true = 1

-- bytes behind their number, which has two bytes
abbrev pub counted : List ℕ → List ℕ
counted bytes = to_le_bytes w16 (length bytes) ++ bytes

-- the bit rate switch and the error state indicator of an FD frame
abbrev pub switch_of : Kind → Bool
switch_of (Fd brs esi) = brs
switch_of Data = false
switch_of Remote = false

abbrev pub indicator_of : Kind → Bool
indicator_of (Fd brs esi) = esi
indicator_of Data = false
indicator_of Remote = false

abbrev pub parameter_fields : Parameter → List ℕ
parameter_fields (Rate rate) = 1 ∷ to_le_bytes w32 rate
parameter_fields (FdRate rate) = 2 ∷ to_le_bytes w32 rate
parameter_fields Keep = 4 ∷ 1 ∷ []
parameter_fields Discard = 4 ∷ 2 ∷ []

abbrev pub declared_byte : Declared → ℕ
declared_byte Active = 1
declared_byte Passive = 2
declared_byte Off = 3

abbrev pub fields_of : Operation → List ℕ
fields_of (FormatError bytes) = counted bytes
fields_of (Transmit f) = to_le_bytes w32 f.id ++ flag f.ext ∷ flag (remote_bit f.kind) ∷ counted f.bytes
fields_of (FdTransmit f) = to_le_bytes w32 f.id ++ flag f.ext ∷ flag (switch_of f.kind) ∷ flag (indicator_of f.kind) ∷ counted f.bytes
fields_of (Confirm id) = to_le_bytes w32 id
fields_of (ArbitrationLost id) = to_le_bytes w32 id
fields_of (BusError id kind primary sender) = to_le_bytes w32 id ++ kind ∷ (if primary then 1 else 2) ∷ flag sender ∷ []
fields_of (Configuration parameter) = parameter_fields parameter
fields_of (Status declared) = declared_byte declared ∷ []
fields_of Wakeup = []
fields_of Sleep = []

-- a code, the number of all bytes, and fields
abbrev pub spelled : ℕ → List ℕ → List ℕ
spelled code fields = to_le_bytes w32 code ++ to_le_bytes w32 (8 + length fields) ++ fields

unfoldable pub spell : Operation → List ℕ
spell op = spelled (code_of op) (fields_of op)
