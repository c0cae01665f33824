-- Worked operations, computed: their bytes and lengths.
use Rattle.std.specs.Prelude.{◌≡◌, true, false, [], ◌∷◌, refl}
use Rattle.frame_specs.specs.Frame.{Data, Remote, Fd}
use Rattle.operation_specs.specs.Operation.{FormatError, Transmit, FdTransmit, Confirm, BusError, Configuration, Status, Sleep, Rate, Discard, Off}
use Rattle.operation_specs.specs.Spelling.{spell}
use Rattle.operation_specs.specs.Reading.{first_length}

-- a data frame with the identifier 123 and two bytes
transmit : spell (Transmit (record { id = 0x123; ext = false; kind = Data; bytes = 1 ∷ 2 ∷ [] }))
    ≡ 0x10 ∷ 0 ∷ 0 ∷ 0 ∷ 18 ∷ 0 ∷ 0 ∷ 0 ∷ 0x23 ∷ 1 ∷ 0 ∷ 0 ∷ 0 ∷ 0 ∷ 2 ∷ 0 ∷ 1 ∷ 2 ∷ []
unfolding spell
transmit = refl

remote_transmit : spell (Transmit (record { id = 0x12345678; ext = true; kind = Remote; bytes = [] }))
    ≡ 0x10 ∷ 0 ∷ 0 ∷ 0 ∷ 16 ∷ 0 ∷ 0 ∷ 0 ∷ 0x78 ∷ 0x56 ∷ 0x34 ∷ 0x12 ∷ 1 ∷ 1 ∷ 0 ∷ 0 ∷ []
unfolding spell
remote_transmit = refl

fd_transmit : spell (FdTransmit (record { id = 1; ext = false; kind = Fd true false; bytes = 9 ∷ [] }))
    ≡ 0x11 ∷ 0 ∷ 0 ∷ 0 ∷ 18 ∷ 0 ∷ 0 ∷ 0 ∷ 1 ∷ 0 ∷ 0 ∷ 0 ∷ 0 ∷ 1 ∷ 0 ∷ 1 ∷ 0 ∷ 9 ∷ []
unfolding spell
fd_transmit = refl

format_error : spell (FormatError (7 ∷ []))
    ≡ 1 ∷ 0 ∷ 0 ∷ 0 ∷ 11 ∷ 0 ∷ 0 ∷ 0 ∷ 1 ∷ 0 ∷ 7 ∷ []
unfolding spell
format_error = refl

confirm : spell (Confirm 0x123) ≡ 0x20 ∷ 0 ∷ 0 ∷ 0 ∷ 12 ∷ 0 ∷ 0 ∷ 0 ∷ 0x23 ∷ 1 ∷ 0 ∷ 0 ∷ []
unfolding spell
confirm = refl

bus_error : spell (BusError 5 4 false true) ≡ 0x31 ∷ 0 ∷ 0 ∷ 0 ∷ 15 ∷ 0 ∷ 0 ∷ 0 ∷ 5 ∷ 0 ∷ 0 ∷ 0 ∷ 4 ∷ 2 ∷ 1 ∷ []
unfolding spell
bus_error = refl

rate : spell (Configuration (Rate 500000)) ≡ 0x40 ∷ 0 ∷ 0 ∷ 0 ∷ 13 ∷ 0 ∷ 0 ∷ 0 ∷ 1 ∷ 0x20 ∷ 0xa1 ∷ 7 ∷ 0 ∷ []
unfolding spell
rate = refl

discard : spell (Configuration Discard) ≡ 0x40 ∷ 0 ∷ 0 ∷ 0 ∷ 10 ∷ 0 ∷ 0 ∷ 0 ∷ 4 ∷ 2 ∷ []
unfolding spell
discard = refl

status : spell (Status Off) ≡ 0x41 ∷ 0 ∷ 0 ∷ 0 ∷ 9 ∷ 0 ∷ 0 ∷ 0 ∷ 3 ∷ []
unfolding spell
status = refl

sleep : spell Sleep ≡ 0xf0 ∷ 0 ∷ 0 ∷ 0 ∷ 8 ∷ 0 ∷ 0 ∷ 0 ∷ []
unfolding spell
sleep = refl

-- the first item ends where its length says, and takes all where the length is over what is left
first_of_two : first_length (0xf0 ∷ 0 ∷ 0 ∷ 0 ∷ 8 ∷ 0 ∷ 0 ∷ 0 ∷ 2 ∷ []) ≡ 8
first_of_two = refl

cut : first_length (0xf0 ∷ 0 ∷ 0 ∷ 0 ∷ 10 ∷ 0 ∷ 0 ∷ 0 ∷ 2 ∷ []) ≡ 9
cut = refl
