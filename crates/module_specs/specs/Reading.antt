-- Reading from left to right. Each reader looks at the bytes of a region from the file's beginning to the region's end, and at
-- a place in them: it gives an item and the place behind it, or the first fault with its place.
use Rattle.std.specs.Prelude.{◌≡◌, ℕ, zero, suc, ◌+◌, ◌-◌, ℤ, Bool, true, false, not, List, [], ◌∷◌, length, get_or, take, drop, Option, Some, None, Result, Ok, Err, nat_lt, ◌==◌, if◌then◌else◌}
use Rattle.std.specs.Str.{is_utf8}
use Rattle.leb_bytes.specs.declared.error.LebError.{LebError}
use Rattle.leb_bytes.specs.declared.error.LebError.TheVariants as leb
use Rattle.leb_bytes.specs.Reading.{unsigned_at, signed_at}
use Rattle.wasm_types.specs.declared.instr.ValType.{ValType}
use Rattle.wasm_types.specs.declared.instr.ValType.TheVariants.{I32, I64}
use Rattle.module_specs.specs.declared.fault.Fault.{Fault}
use Rattle.module_specs.specs.declared.fault.Fault.TheVariants.{Short, Number, Float, Form, Utf8, Opcode, Memory}

-- an item and the place behind it, or a fault
abbrev pub Read : Type 0 → Type 0
Read A = Result (A × ℕ) Fault

-- a fault where this holds
abbrev pub refuse_if : Bool → Fault → Result (Unit {0}) Fault
refuse_if true e = Err e
refuse_if false e = Ok tt

infixl 10 ◌>>=◌
abbrev pub ◌>>=◌ : {A B : Type 0} → Result A Fault → (A → Result B Fault) → Result B Fault
(Ok x) >>= f = f x
(Err e) >>= f = Err e

-- the item seen by a function
abbrev pub mapped : {A B : Type 0} → (A → B) → Read A → Read B
mapped f (Ok x) = Ok (f x.0, x.1)
mapped f (Err e) = Err e

-- a fault that was returned is the one that reading gives, unless memory ran out
abbrev pub Fails : {Y : Type 0} → Fault → Result Y Fault → Type 0
Fails Memory read = Unit {0}
Fails e read = read ≡ Err e

-- what was returned, seen by view, is what reading gives, unless memory ran out
abbrev pub Gives : {X Y : Type 0} → (X → Y) → Result X Fault → Result Y Fault → Type 0
Gives view (Ok x) read = read ≡ Ok (view x)
Gives view (Err e) read = Fails e read

unfoldable pub byte_at : List ℕ → ℕ → Read ℕ
byte_at b at = if nat_lt at (length b) then Ok (get_or b at 0, at + 1) else Err (Short (length b))

-- a LEB number: that the bytes end is a fault at the region's end, and any other one at the number
abbrev pub placed : {A : Type 0} → List ℕ → ℕ → Result (A × List ℕ) LebError → Read A
placed b at (Ok p) = Ok (p.0, length b - length p.1)
placed b at (Err leb.Short) = Err (Short (length b))
placed b at (Err e) = Err (Number at)

unfoldable pub u32_at : List ℕ → ℕ → Read ℕ
u32_at b at = placed b at (unsigned_at 32 (drop at b))

unfoldable pub s32_at : List ℕ → ℕ → Read ℤ
s32_at b at = placed b at (signed_at 32 (drop at b))

unfoldable pub s64_at : List ℕ → ℕ → Read ℤ
s64_at b at = placed b at (signed_at 64 (drop at b))

-- a byte 00
unfoldable pub zero_at : List ℕ → ℕ → Result ℕ Fault
zero_at b at = do
  byte ← byte_at b at
  fine ← refuse_if (not (byte.0 == 0)) (Opcode at byte.0)
  Ok byte.1

-- so many items, one behind another
unfoldable pub each_at : {A : Type 0} → (List ℕ → ℕ → Read A) → List ℕ → ℕ → ℕ → Read (List A)
each_at item b zero at = Ok ([], at)
each_at item b (suc n) at = do
  first ← item b at
  others ← each_at item b n first.1
  Ok (first.0 ∷ others.0, others.1)

-- how many, and the items
unfoldable pub vector_at : {A : Type 0} → (List ℕ → ℕ → Read A) → List ℕ → ℕ → Read (List A)
vector_at item b at = do
  count ← u32_at b at
  each_at item b count.0 count.1

-- A size, and content in a region that ends where the size says: one fault where that end lies past the bytes, and another
-- where the content ends before it.
unfoldable pub sized_at : {A : Type 0} → (ℕ → Fault) → Fault → (List ℕ → ℕ → Read A) → List ℕ → ℕ → Read A
sized_at past early content b at = do
  size ← u32_at b at
  fine ← refuse_if (nat_lt (length b) (size.1 + size.0)) (past (size.1 + size.0))
  item ← content (take (size.1 + size.0) b) size.1
  full ← refuse_if (nat_lt item.1 (size.1 + size.0)) early
  Ok item

-- a vector of bytes that are UTF-8
unfoldable pub name_at : List ℕ → ℕ → Read (List ℕ)
name_at b at = do
  name ← vector_at byte_at b at
  fine ← refuse_if (not (is_utf8 name.0)) (Utf8 at)
  Ok name

-- value types
abbrev pub type_of : ℕ → ℕ → ℕ → Read ValType
type_of at next byte =
    if byte == 0x7F then Ok (I32, next)
    else if byte == 0x7E then Ok (I64, next)
    else if byte == 0x7D then Err (Float at)
    else if byte == 0x7C then Err (Float at)
    else Err (Form at)

unfoldable pub type_at : List ℕ → ℕ → Read ValType
type_at b at = do
  byte ← byte_at b at
  type_of at byte.1 byte.0

-- 40 is no result, or it is a value type
abbrev pub block_type_of : ℕ → ℕ → ℕ → Read (Option ValType)
block_type_of at next byte = if byte == 0x40 then Ok (None, next) else mapped (λ t. Some t) (type_of at next byte)

unfoldable pub block_type_at : List ℕ → ℕ → Read (Option ValType)
block_type_at b at = do
  byte ← byte_at b at
  block_type_of at byte.1 byte.0
