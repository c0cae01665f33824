-- The types of functions and instructions, [t1*] -> [t2*] (WebAssembly Core 1.0, sections 2.3.3 and 3.3). Typing and
-- meaning share them.
use Rattle.std.specs.Prelude.{ℕ, ◌==◌, ◌&&◌, Bool, true, false, List, [], ◌∷◌, Option, Some, None, option_map, option_and_then, reverse, slice_get, if◌then◌else◌}
use Rattle.wasm_types.specs.declared.instr.ValType.{ValType}
use Rattle.wasm_types.specs.declared.instr.Instr.{Instr}
use Rattle.wasm_types.specs.declared.instr.Instr.TheVariants.{Nop, Globals, Access, MemorySize, MemoryGrow, I32Const, I64Const, Numeric}
use Rattle.wasm_types.specs.declared.module.FuncType.{FuncType}
use Rattle.wasm_types.specs.declared.module.GlobalVar.{GlobalVar}
use Rattle.wasm_types.specs.Nested.{Code}
use Rattle.wasm_types.specs.Modules.{NestedFunc, NestedModule}
use Rattle.module_specs.specs.declared.opcodes.Group.{Group}
use Rattle.module_specs.specs.declared.opcodes.Group.TheVariants as group
use Rattle.module_specs.specs.declared.opcodes.Types.{Types}
use Rattle.module_specs.specs.Opcodes.{row, group_of, operands_of}
use Rattle.code_specs.specs.Values.{is_same}

-- what is taken from the operand stack and what is given to it, the top first in both
pub record Signature : Type 0 where
  pub takes : List ValType
  pub gives : List ValType

-- none or one
abbrev pub types_of : Option ValType → List ValType
types_of None = []
types_of (Some t) = t ∷ []

abbrev pub is_same_list : List ValType → List ValType → Bool
is_same_list [] [] = true
is_same_list [] (u ∷ us) = false
is_same_list (t ∷ ts) [] = false
is_same_list (t ∷ ts) (u ∷ us) = is_same t u && is_same_list ts us

abbrev pub is_same_type : FuncType → FuncType → Bool
is_same_type f g = is_same_list f.params g.params && is_same_list f.results g.results

-- the last parameter is on top, and so is the last result
abbrev pub signature_of_type : FuncType → Signature
signature_of_type f = record { takes = reverse f.params; gives = reverse f.results }

-- a function with its type (4.2.6)
pub record Function : Type 0 where
  pub ty : FuncType
  pub locals : List ValType
  pub code : Code

abbrev pub typed_function : NestedFunc → FuncType → Function
typed_function f t = record { ty = t; locals = f.locals; code = f.code }

-- a function of the module that has a type
abbrev pub function_at : NestedModule → ℕ → Option Function
function_at m index =
    option_and_then (λ f. option_map (typed_function f) (slice_get m.types f.ty)) (slice_get m.funcs index)

abbrev pub type_of_function : NestedModule → ℕ → Option FuncType
type_of_function m index = option_map (λ f. f.ty) (function_at m index)

-- ---- instructions that need neither locals nor labels nor functions

-- as the table of opcodes says it
abbrev pub table_signature : Types → Signature
table_signature t = record { takes = reverse (operands_of t.takes); gives = types_of t.gives }

unfoldable pub opcode_signature : ℕ → Option Signature
opcode_signature op = option_map table_signature (row op).types

-- how many bytes a load or store has
abbrev pub bytes_of_group : Group → ℕ
bytes_of_group (group.Access count) = count
bytes_of_group other = 0

unfoldable pub access_bytes : ℕ → ℕ
access_bytes op = bytes_of_group (group_of op)

-- global.get: [] -> [t]; global.set, where code may set the global: [t] -> []
abbrev pub global_signature : ℕ → GlobalVar → Option Signature
global_signature op g =
    if op == 0x23 then Some (record { takes = []; gives = g.ty ∷ [] })
    else if op == 0x24 && g.mutable then Some (record { takes = g.ty ∷ []; gives = [] })
    else None

-- where there is a memory
abbrev pub over_memory : NestedModule → Option Signature → Option Signature
over_memory m signature = option_and_then (λ _. signature) (slice_get m.memories 0)

-- the type of an instruction in a module, None where what it names isn't there, or where its type hangs on more
unfoldable pub signature_of : NestedModule → Instr → Option Signature
signature_of m Nop = opcode_signature 0x01
signature_of m (Globals op index) = option_and_then (global_signature op) (slice_get m.globals index)
signature_of m (Access op align offset) = over_memory m (opcode_signature op)
signature_of m MemorySize = over_memory m (opcode_signature 0x3F)
signature_of m MemoryGrow = over_memory m (opcode_signature 0x40)
signature_of m (I32Const z) = opcode_signature 0x41
signature_of m (I64Const z) = opcode_signature 0x42
signature_of m (Numeric op) = opcode_signature op
signature_of m other = None
