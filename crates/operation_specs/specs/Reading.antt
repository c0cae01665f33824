-- How a list of bytes is read: as operations one after the other, and as bad operations where no operation is spelled so.
use Rattle.std.specs.Prelude.{◌≡◌, ◌≢◌, ◌<◌, ℕ, ◌||◌, Bool, List, [], ◌∷◌, length, take, drop, nat_lt, if◌then◌else◌}
use Rattle.std.specs.Int.{w32, from_le_bytes}
use Rattle.operation_specs.specs.Operation.{Operation, IsOperation}
use Rattle.operation_specs.specs.Spelling.{spell}

-- an operation, or bytes that are none
pub data Item : Type 0 where
  Op : Operation → Item
  Bad : List ℕ → Item

-- the length that the bytes state for the first of their operations
abbrev pub stated_length : List ℕ → ℕ
stated_length bytes = from_le_bytes w32 (drop 4 bytes)

-- the bytes hold no whole operation: they have no header, or the length is none, or over what is left
abbrev pub is_cut : List ℕ → Bool
is_cut bytes = nat_lt (length bytes) 8 || nat_lt (stated_length bytes) 8 || nat_lt (length bytes) (stated_length bytes)

-- how many bytes the first item takes: all that is left where it is cut
abbrev pub first_length : List ℕ → ℕ
first_length bytes = if is_cut bytes then length bytes else stated_length bytes

-- these bytes are the spelling of this operation, or of none
abbrev pub IsItem : List ℕ → Item → Type 0
IsItem bytes (Op op) = IsOperation op × (spell op ≡ bytes)
IsItem bytes (Bad held) = (held ≡ bytes) × ((op : Operation) → IsOperation op → spell op ≢ bytes)

abbrev pub IsReading : List ℕ → List Item → Type 0
IsReading bytes [] = bytes ≡ []
IsReading bytes (item ∷ items) = (0 < length bytes) × IsItem (take (first_length bytes) bytes) item × IsReading (drop (first_length bytes) bytes) items

-- an operation that can be written, or at least one byte that is none
abbrev pub IsWhole : Item → Type 0
IsWhole (Op op) = IsOperation op
IsWhole (Bad held) = 0 < length held
