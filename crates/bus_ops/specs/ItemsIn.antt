-- The reading of bytes as a function, for definitions that go on from it: of bytes below 256 it is their one reading.
use Rattle.std.specs.Prelude.{◌≡◌, ℕ, zero, suc, List, [], ◌∷◌, length, take, drop, Option, Some, None, refl}
use Rattle.operation_specs.specs.Operation.{Operation, Wakeup}
use Rattle.operation_specs.specs.Reading.{Item, Op, Bad, first_length}
use Rattle.bus_ops.specs.Fields.{operation_at, fields_at, plain_at}

abbrev pub item_or_bad : Option Operation → List ℕ → Item
item_or_bad (Some op) bytes = Op op
item_or_bad None bytes = Bad bytes

-- the operation that these bytes spell, or a bad item
unfoldable pub item_in : List ℕ → Item
item_in bytes = item_or_bad (operation_at bytes) bytes

-- at most so many items
unfoldable pub items_within : ℕ → List ℕ → List Item
items_within limit [] = []
items_within zero (b ∷ bytes) = []
items_within (suc limit) (b ∷ bytes) =
    item_in (take (first_length (b ∷ bytes)) (b ∷ bytes)) ∷ items_within limit (drop (first_length (b ∷ bytes)) (b ∷ bytes))

unfoldable pub items_in : List ℕ → List Item
items_in bytes = items_within (length bytes) bytes

-- an operation, and a byte that is none
wakeup_and_more : items_in (0x42 ∷ 0 ∷ 0 ∷ 0 ∷ 8 ∷ 0 ∷ 0 ∷ 0 ∷ 7 ∷ []) ≡ Op Wakeup ∷ Bad (7 ∷ []) ∷ []
unfolding items_in items_within item_in operation_at fields_at plain_at
wakeup_and_more = refl
