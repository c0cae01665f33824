-- The table of opcodes (WebAssembly Core 1.0, section 5.4): what each byte is, and the types that it alone settles.
use Rattle.std.specs.Prelude.{◌≡◌, ℕ, Bool, List, [], ◌∷◌, Option, Some, None, nat_lt, nat_le, ◌&&◌, if◌then◌else◌, refl}
use Rattle.wasm_types.specs.declared.instr.ValType.{ValType}
use Rattle.wasm_types.specs.declared.instr.ValType.TheVariants.{I32, I64}
use Rattle.wasm_types.specs.declared.instr.Instr.{Instr}
use Rattle.wasm_types.specs.declared.instr.Instr.TheVariants as instr
use Rattle.module_specs.specs.declared.opcodes.Kind.{Kind}
use Rattle.module_specs.specs.declared.opcodes.Kind.TheVariants as kind
use Rattle.module_specs.specs.declared.opcodes.Simple.{Simple}
use Rattle.module_specs.specs.declared.opcodes.Simple.TheVariants as simple
use Rattle.module_specs.specs.declared.opcodes.Indexed.{Indexed}
use Rattle.module_specs.specs.declared.opcodes.Indexed.TheVariants as indexed
use Rattle.module_specs.specs.declared.opcodes.Group.{Group}
use Rattle.module_specs.specs.declared.opcodes.Group.TheVariants.{Opens, Else, End, Bare, Zero, Index, Access, Constant, Indirect, Table, Float, Unknown}
use Rattle.module_specs.specs.declared.opcodes.Operands.{Operands}
use Rattle.module_specs.specs.declared.opcodes.Operands.TheVariants.{One, Two}
use Rattle.module_specs.specs.declared.opcodes.Operands.TheVariants as operands
use Rattle.module_specs.specs.declared.opcodes.Row.{Row}

-- opcodes in a row, with the same meaning
pub record Family : Type 0 where
  pub first : ℕ
  pub last : ℕ
  pub row : Row

abbrev pub plain_row : Group → Row
plain_row group = record { group = group; types = None }

abbrev pub typed_row : Group → Operands → Option ValType → Row
typed_row group takes gives = record { group = group; types = Some (record { takes = takes; gives = gives }) }

-- their types hang on more than the opcode, or they have none
abbrev pub plain : ℕ → ℕ → Group → Family
plain first last group = record { first = first; last = last; row = plain_row group }

-- operands and result
abbrev pub typed : ℕ → ℕ → Group → Operands → Option ValType → Family
typed first last group takes gives = record { first = first; last = last; row = typed_row group takes gives }

-- control, and what throws operands away or chooses between them
abbrev pub control_table : List Family
control_table =
    plain 0x00 0x00 (Bare simple.Unreachable)
    ∷ typed 0x01 0x01 (Bare simple.Nop) operands.None None
    ∷ plain 0x02 0x02 (Opens kind.Block)
    ∷ plain 0x03 0x03 (Opens kind.Loop)
    ∷ plain 0x04 0x04 (Opens kind.If)
    ∷ plain 0x05 0x05 Else
    ∷ plain 0x0B 0x0B End
    ∷ plain 0x0C 0x0C (Index indexed.Br)
    ∷ plain 0x0D 0x0D (Index indexed.BrIf)
    ∷ plain 0x0E 0x0E Table
    ∷ plain 0x0F 0x0F (Bare simple.Return)
    ∷ plain 0x10 0x10 (Index indexed.Call)
    ∷ plain 0x11 0x11 Indirect
    ∷ plain 0x1A 0x1A (Bare simple.Drop)
    ∷ plain 0x1B 0x1B (Bare simple.Select)
    ∷ []

-- variables, memory and constants
abbrev pub data_table : List Family
data_table =
    plain 0x20 0x22 (Index indexed.Local)
    ∷ plain 0x23 0x24 (Index indexed.Globals)
    ∷ typed 0x28 0x28 (Access 4) (One I32) (Some I32)
    ∷ typed 0x29 0x29 (Access 8) (One I32) (Some I64)
    ∷ plain 0x2A 0x2B Float
    ∷ typed 0x2C 0x2D (Access 1) (One I32) (Some I32)
    ∷ typed 0x2E 0x2F (Access 2) (One I32) (Some I32)
    ∷ typed 0x30 0x31 (Access 1) (One I32) (Some I64)
    ∷ typed 0x32 0x33 (Access 2) (One I32) (Some I64)
    ∷ typed 0x34 0x35 (Access 4) (One I32) (Some I64)
    ∷ typed 0x36 0x36 (Access 4) (Two I32 I32) None
    ∷ typed 0x37 0x37 (Access 8) (Two I32 I64) None
    ∷ plain 0x38 0x39 Float
    ∷ typed 0x3A 0x3A (Access 1) (Two I32 I32) None
    ∷ typed 0x3B 0x3B (Access 2) (Two I32 I32) None
    ∷ typed 0x3C 0x3C (Access 1) (Two I32 I64) None
    ∷ typed 0x3D 0x3D (Access 2) (Two I32 I64) None
    ∷ typed 0x3E 0x3E (Access 4) (Two I32 I64) None
    ∷ typed 0x3F 0x3F (Zero simple.MemorySize) operands.None (Some I32)
    ∷ typed 0x40 0x40 (Zero simple.MemoryGrow) (One I32) (Some I32)
    ∷ typed 0x41 0x41 (Constant I32) operands.None (Some I32)
    ∷ typed 0x42 0x42 (Constant I64) operands.None (Some I64)
    ∷ plain 0x43 0x44 Float
    ∷ []

-- numeric instructions
abbrev pub numeric_table : List Family
numeric_table =
    typed 0x45 0x45 (Bare simple.Numeric) (One I32) (Some I32)
    ∷ typed 0x46 0x4F (Bare simple.Numeric) (Two I32 I32) (Some I32)
    ∷ typed 0x50 0x50 (Bare simple.Numeric) (One I64) (Some I32)
    ∷ typed 0x51 0x5A (Bare simple.Numeric) (Two I64 I64) (Some I32)
    ∷ plain 0x5B 0x66 Float
    ∷ typed 0x67 0x69 (Bare simple.Numeric) (One I32) (Some I32)
    ∷ typed 0x6A 0x78 (Bare simple.Numeric) (Two I32 I32) (Some I32)
    ∷ typed 0x79 0x7B (Bare simple.Numeric) (One I64) (Some I64)
    ∷ typed 0x7C 0x8A (Bare simple.Numeric) (Two I64 I64) (Some I64)
    ∷ plain 0x8B 0xA6 Float
    ∷ typed 0xA7 0xA7 (Bare simple.Numeric) (One I64) (Some I32)
    ∷ plain 0xA8 0xAB Float
    ∷ typed 0xAC 0xAD (Bare simple.Numeric) (One I32) (Some I64)
    ∷ plain 0xAE 0xBF Float
    ∷ []

abbrev pub is_of : ℕ → Family → Bool
is_of op f = nat_le f.first op && nat_le op f.last

abbrev pub look_up : ℕ → List Family → Row
look_up op [] = plain_row Unknown
look_up op (f ∷ fs) = if is_of op f then f.row else look_up op fs

-- what an opcode is, and its types
abbrev pub row : ℕ → Row
row op =
    if nat_lt op 0x20 then look_up op control_table
    else if nat_lt op 0x45 then look_up op data_table
    else look_up op numeric_table

abbrev pub group_of : ℕ → Group
group_of op = (row op).group

-- operands as a list, from the lowest to the one at the top
abbrev pub operands_of : Operands → List ValType
operands_of operands.None = []
operands_of (One t) = t ∷ []
operands_of (Two t u) = t ∷ u ∷ []

-- the byte of what opens a list
abbrev pub kind_byte : Kind → ℕ
kind_byte kind.Block = 0x02
kind_byte kind.Loop = 0x03
kind_byte kind.If = 0x04

-- the instruction that an opcode is, where nothing else says it
abbrev pub simple_instr : ℕ → Simple → Instr
simple_instr op simple.Unreachable = instr.Unreachable
simple_instr op simple.Nop = instr.Nop
simple_instr op simple.Return = instr.Return
simple_instr op simple.Drop = instr.Drop
simple_instr op simple.Select = instr.Select
simple_instr op simple.MemorySize = instr.MemorySize
simple_instr op simple.MemoryGrow = instr.MemoryGrow
simple_instr op simple.Numeric = instr.Numeric op

-- the instruction that an opcode is with this index
abbrev pub indexed_instr : ℕ → Indexed → ℕ → Instr
indexed_instr op indexed.Br n = instr.Br n
indexed_instr op indexed.BrIf n = instr.BrIf n
indexed_instr op indexed.Call n = instr.Call n
indexed_instr op indexed.Local n = instr.Local op n
indexed_instr op indexed.Globals n = instr.Globals op n

-- local.get and i64.store16: an i32 address and an i64 are taken
local_get-row : row 0x20 ≡ plain_row (Index indexed.Local)
local_get-row = refl

i64_store16-row : row 0x3D ≡ typed_row (Access 2) (Two I32 I64) None
i64_store16-row = refl

-- i64.rotr is the last binary operation, and f32.abs stands behind it
i64_rotr-row : row 0x8A ≡ typed_row (Bare simple.Numeric) (Two I64 I64) (Some I64)
i64_rotr-row = refl

f32_abs-row : row 0x8B ≡ plain_row Float
f32_abs-row = refl

-- sign extensions aren't in version 1
i32_extend8_s-row : row 0xC0 ≡ plain_row Unknown
i32_extend8_s-row = refl
