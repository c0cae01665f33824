-- Values (WebAssembly Core 1.0, section 4.2.1), and values of given types on top of a stack.
use Rattle.std.specs.Prelude.{ℕ, zero, suc, ◌%◌, ◌^◌, ◌&&◌, Bool, true, false, List, [], ◌∷◌, Option, Some, None, map, nat_lt, if◌then◌else◌}
use Rattle.wasm_types.specs.declared.instr.ValType.{ValType}
use Rattle.wasm_types.specs.declared.instr.ValType.TheVariants.{I32, I64}
use Rattle.wasm_types.specs.Spellable.{width}

-- a type and a number; i32 and i64 have the numbers below 2^32 and 2^64
pub record Value : Type 0 where
  pub ty : ValType
  pub bits : ℕ

-- whether two types are one
abbrev pub is_same : ValType → ValType → Bool
is_same I32 I32 = true
is_same I64 I64 = true
is_same I32 I64 = false
is_same I64 I32 = false

-- a number as a value of a type: its low bits, as many as the type has
abbrev pub value : ValType → ℕ → Value
value t n = record { ty = t; bits = n % 2 ^ width t }

-- the default value of a type
abbrev pub zero_of : ValType → Value
zero_of t = record { ty = t; bits = 0 }

-- whether it is a value of a type
abbrev pub is_of : ValType → Value → Bool
is_of t v = is_same t v.ty && nat_lt v.bits (2 ^ width t)

-- numbers without their types
abbrev pub bits_of : Value → ℕ
bits_of v = v.bits

abbrev pub all_bits : List Value → List ℕ
all_bits vs = map bits_of vs

-- a stack, the top first, taken apart into some values and those below
pub record Split (V : Type 0) : Type 0 where
  pub top : List V
  pub below : List V

abbrev pub with_top : {V : Type 0} → V → Option (Split V) → Option (Split V)
with_top v None = None
with_top v (Some s) = Some (record { top = v ∷ s.top; below = s.below })

-- the topmost values, where they have these types, and those below
abbrev pub split : List ValType → List Value → Option (Split Value)
split [] vs = Some (record { top = []; below = vs })
split (t ∷ ts) [] = None
split (t ∷ ts) (v ∷ vs) = if is_of t v then with_top v (split ts vs) else None

-- so many of the topmost, and those below
abbrev pub split_first : {V : Type 0} → ℕ → List V → Option (Split V)
split_first zero vs = Some (record { top = []; below = vs })
split_first (suc n) [] = None
split_first (suc n) (v ∷ vs) = with_top v (split_first n vs)

-- the slots of a frame: each local and each operand takes one
abbrev pub most_slots : ℕ
most_slots = 4096
