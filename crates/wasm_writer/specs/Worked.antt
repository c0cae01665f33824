-- A worked module, and its shortest spelling.
use Rattle.std.specs.Prelude.{◌≡◌, ℕ, List, [], ◌∷◌, None, refl}
use Rattle.leb_bytes.specs.Writing.{shortest}
use Rattle.wasm_types.specs.declared.instr.ValType.TheVariants.{I32}
use Rattle.wasm_types.specs.declared.instr.Instr.TheVariants.{Local, Access}
use Rattle.wasm_types.specs.Nested.{Nil, Leaf}
use Rattle.wasm_types.specs.Modules.{NestedModule}
use Rattle.module_specs.specs.ModuleSpelling.{empty}
use Rattle.wasm_writer.specs.ModuleTexts.{module_text}

-- a function with an i32.load at its argument, exported as "f", and one page of memory
abbrev pub load_module : NestedModule
load_module = record empty {
  types = record { params = I32 ∷ []; results = I32 ∷ [] } ∷ [];
  funcs = record { ty = 0; locals = []; code = Leaf (Local 0x20 0) (Leaf (Access 0x28 2 0) Nil) } ∷ [];
  memories = record { min = 1; max = None } ∷ [];
  exports = record { name = 0x66 ∷ []; kind = 0; index = 0 } ∷ [];
}

-- header, types, functions, memories, exports, bodies
abbrev pub load_bytes : List ℕ
load_bytes =
    0x00 ∷ 0x61 ∷ 0x73 ∷ 0x6D ∷ 0x01 ∷ 0x00 ∷ 0x00 ∷ 0x00
    ∷ 0x01 ∷ 0x06 ∷ 0x01 ∷ 0x60 ∷ 0x01 ∷ 0x7F ∷ 0x01 ∷ 0x7F
    ∷ 0x03 ∷ 0x02 ∷ 0x01 ∷ 0x00
    ∷ 0x05 ∷ 0x03 ∷ 0x01 ∷ 0x00 ∷ 0x01
    ∷ 0x07 ∷ 0x05 ∷ 0x01 ∷ 0x01 ∷ 0x66 ∷ 0x00 ∷ 0x00
    ∷ 0x0A ∷ 0x09 ∷ 0x01 ∷ 0x07 ∷ 0x00 ∷ 0x20 ∷ 0x00 ∷ 0x28 ∷ 0x02 ∷ 0x00 ∷ 0x0B
    ∷ []

module_text-load : module_text load_module ≡ load_bytes
unfolding shortest
module_text-load = refl
