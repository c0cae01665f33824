-- What the worked values are computed on: a module with a part of each kind, and short names for what code is made of.
use Rattle.std.specs.Prelude.{ℕ, true, false, List, [], ◌∷◌, pos, Some, None}
use Rattle.wasm_types.specs.declared.instr.ValType.{ValType}
use Rattle.wasm_types.specs.declared.instr.ValType.TheVariants.{I32, I64}
use Rattle.wasm_types.specs.declared.instr.Instr.{Instr}
use Rattle.wasm_types.specs.declared.instr.Instr.TheVariants.{I32Const, I64Const, Local, Numeric}
use Rattle.wasm_types.specs.declared.module.FuncType.{FuncType}
use Rattle.wasm_types.specs.Nested.{Code, Nil, Leaf}
use Rattle.wasm_types.specs.Modules.{NestedFunc, NestedModule}
use Rattle.module_specs.specs.ModuleSpelling.{empty}
use Rattle.code_specs.specs.Values.{Value}
use Rattle.code_specs.specs.Stores.{Store}

abbrev pub i32 : ℕ → Value
i32 n = record { ty = I32; bits = n }

abbrev pub i64 : ℕ → Value
i64 n = record { ty = I64; bits = n }

-- a list of instructions that hold no list
abbrev pub code : List Instr → Code
code [] = Nil
code (i ∷ is) = Leaf i (code is)

-- i32.const, i64.const, local.get, local.set, local.tee, i32.add
abbrev pub const32 : ℕ → Instr
const32 n = I32Const (pos n)

abbrev pub const64 : ℕ → Instr
const64 n = I64Const (pos n)

abbrev pub get : ℕ → Instr
get index = Local 0x20 index

abbrev pub put : ℕ → Instr
put index = Local 0x21 index

abbrev pub tee : ℕ → Instr
tee index = Local 0x22 index

abbrev pub add32 : Instr
add32 = Numeric 0x6A

abbrev pub func : ℕ → List ValType → Code → NestedFunc
func ty locals code = record { ty = ty; locals = locals; code = code }

-- the types () -> (), () -> i32, i32 -> i32, and i32 i64 -> i64
abbrev pub types : List FuncType
types =
    record { params = []; results = [] }
    ∷ record { params = []; results = I32 ∷ [] }
    ∷ record { params = I32 ∷ []; results = I32 ∷ [] }
    ∷ record { params = I32 ∷ I64 ∷ []; results = I64 ∷ [] }
    ∷ []

-- These functions, with three entries in the table of which the last two are functions 0 and 1, a memory that may grow
-- from no page to one, a global of type i32 that code may set, and one of type i64 that it may not.
abbrev pub sample : List NestedFunc → NestedModule
sample funcs = record empty {
  types = types;
  funcs = funcs;
  tables = record { min = 3; max = None } ∷ [];
  memories = record { min = 0; max = Some 1 } ∷ [];
  globals =
      record { ty = I32; mutable = true; init = record { ty = I32; value = 5 } }
      ∷ record { ty = I64; mutable = false; init = record { ty = I64; value = 6 } }
      ∷ [];
  elements = record { offset = record { ty = I32; value = 1 }; funcs = 0 ∷ 1 ∷ [] } ∷ [];
}

-- no memory yet, and the globals as they begin
abbrev pub opening : Store
opening = record { bytes = []; globals = 5 ∷ 6 ∷ [] }
