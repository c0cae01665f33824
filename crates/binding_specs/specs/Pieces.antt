-- What an answer is made of: pieces, one after the other. A piece comes to a value, or to what breaks the guest, and
-- leaves something to work on behind it.
use Rattle.std.specs.Prelude.{ℕ, ◌+◌, ◌-◌, ◌%◌, List, [], ◌∷◌, ◌++◌, length, map, nat_le, Option, None, Some, option_map, Result, Ok, Err, if◌then◌else◌}
use Rattle.fmi_states.specs.declared.reply.Broken.{Broken}
use Rattle.fmi_states.specs.declared.reply.Broken.TheVariants as broken
use Rattle.wasm_types.specs.Modules.{NestedModule}
use Rattle.code_specs.specs.Values.{Value, all_bits}
use Rattle.code_specs.specs.Stores.{Store, bytes_at, replaced_at}
use Rattle.code_specs.specs.Execution.{Answer, Returned, Trapped, Spent, Stuck, answer_of}

-- The memory and the globals, the address of the area, and what each function that was run has used of its budget.
pub record Work : Type 0 where
  pub store : Store
  pub area : ℕ
  pub used : List ℕ

abbrev pub Piece : Type 0 → Type 0
Piece A = Work → Result A Broken × Work

-- behind what breaks the guest nothing follows
abbrev pub follow : {A B : Type 0} → Result A Broken → (A → Piece B) → Piece B
follow (Ok x) next w = next x w
follow (Err why) next w = (Err why, w)

infixl 10 ◌>>=◌
abbrev pub ◌>>=◌ : {A B : Type 0} → Piece A → (A → Piece B) → Piece B
(piece >>= next) w = follow (piece w).0 next (piece w).1

-- nothing is done
abbrev pub gives : {A : Type 0} → A → Piece A
gives x w = (Ok x, w)

abbrev pub breaks : {A : Type 0} → Broken → Piece A
breaks why w = (Err why, w)

-- the value, where there is one, and else the guest is broken so
abbrev pub wanted : {A : Type 0} → Broken → Option A → Piece A
wanted why None = breaks why
wanted why (Some x) = gives x

-- ---- functions

-- a function of this budget is over, with this store and so much fuel left
abbrev pub behind : (budget left : ℕ) → Store → Work → Work
behind budget left s w = record w { store = s; used = w.used ++ (budget - left) ∷ [] }

-- What it comes to: the numbers that it returns. A function that is stuck counts as trapped; none of a valid module is.
abbrev pub outcome : (budget : ℕ) → Answer Value → Piece (List ℕ)
outcome budget (Returned values s left) w = (Ok (all_bits values), behind budget left s w)
outcome budget (Trapped kind s left) w = (Err broken.Trap, behind budget left s w)
outcome budget (Spent s) w = (Err broken.Spent, behind budget 0 s w)
outcome budget Stuck w = (Err broken.Trap, behind budget 0 w.store w)

-- a function is run, by its index, with a budget of its own
abbrev pub run : NestedModule → (budget index : ℕ) → (arguments : List ℕ) → Piece (List ℕ)
run m budget index arguments w = outcome budget (answer_of m index arguments w.store budget) w

-- ---- the memory

-- so many bytes from an address on, each read as a byte; where they lead out of the memory there are none
abbrev pub bytes_from : (address count : ℕ) → Piece (List ℕ)
bytes_from address count w = wanted broken.BadBuffer (option_map (map (λ b. b % 256)) (bytes_at w.store.bytes address count)) w

-- bytes are written from an address on; where they lead out of the memory none is
abbrev pub writes : (address : ℕ) → (bytes : List ℕ) → Piece (Unit {0})
writes address bytes w =
    if nat_le (address + length bytes) (length w.store.bytes)
    then (Ok tt, record w { store = record w.store { bytes = replaced_at w.store.bytes address bytes } })
    else (Err broken.BadBuffer, w)
