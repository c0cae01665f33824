-- A CAN frame as data (ISO 11898-1, frame formats).
use Rattle.std.specs.Prelude.{ℕ, ◌==◌, ◌&&◌, Bool, true, false, List, [], ◌∷◌, length, nat_le}
use Rattle.std.specs.List.{list_any}

-- A classical data frame, a remote frame, or an FD frame with its bit rate switch (BRS) and its error state indicator (ESI).
pub data Kind : Type 0 where
  Data Remote : Kind
  Fd : (brs esi : Bool) → Kind

-- identifier, extended format or base format, kind, data
pub record Frame : Type 0 where
  pub id : ℕ
  pub ext : Bool
  pub kind : Kind
  pub bytes : List ℕ

-- the numbers of bytes that a data length code states, from 0 to 15
abbrev pub lengths : List ℕ
lengths = 0 ∷ 1 ∷ 2 ∷ 3 ∷ 4 ∷ 5 ∷ 6 ∷ 7 ∷ 8 ∷ 12 ∷ 16 ∷ 20 ∷ 24 ∷ 32 ∷ 48 ∷ 64 ∷ []

-- an identifier has 11 bits in base format and 29 in extended format
abbrev pub identifier_fits : Bool → ℕ → Bool
identifier_fits false id = nat_le id 0x7ff
identifier_fits true id = nat_le id 0x1fffffff

-- a classical frame has up to 8 bytes, an FD frame one of the lengths
abbrev pub length_fits : Kind → ℕ → Bool
length_fits Data n = nat_le n 8
length_fits Remote n = nat_le n 8
length_fits (Fd brs esi) n = list_any (λ l. l == n) lengths

-- a remote frame has no data
abbrev pub remote_fits : Kind → ℕ → Bool
remote_fits Remote n = n == 0
remote_fits Data n = true
remote_fits (Fd brs esi) n = true

abbrev pub is_well_formed : Frame → Bool
is_well_formed f = identifier_fits f.ext f.id && remote_fits f.kind (length f.bytes) && length_fits f.kind (length f.bytes)

-- whether it is an FD frame
abbrev pub is_fd : Kind → Bool
is_fd (Fd brs esi) = true
is_fd Data = false
is_fd Remote = false
