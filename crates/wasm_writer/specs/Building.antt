-- What each call of a builder adds to the module so far.
use Rattle.std.specs.Prelude.{ℕ, List, [], ◌∷◌, ◌++◌, None}
use Rattle.wasm_types.specs.declared.instr.ValType.TheVariants.{I32}
use Rattle.wasm_types.specs.declared.module.FuncType.{FuncType}
use Rattle.wasm_types.specs.declared.module.Limits.{Limits}
use Rattle.wasm_types.specs.declared.module.GlobalVar.{GlobalVar}
use Rattle.wasm_types.specs.declared.module.Export.{Export}
use Rattle.wasm_types.specs.declared.module.Func.{Func}
use Rattle.wasm_types.specs.declared.module.Data.{Data}
use Rattle.wasm_types.specs.declared.module.Module.{Module}

-- a module without anything
abbrev pub nothing : Module
nothing = record {
  types = [];
  funcs = [];
  tables = [];
  memories = [];
  globals = [];
  exports = [];
  start = None;
  elements = [];
  datas = [];
}

abbrev pub with_type : FuncType → Module → Module
with_type t m = record m { types = m.types ++ t ∷ [] }

abbrev pub with_func : Func → Module → Module
with_func f m = record m { funcs = m.funcs ++ f ∷ [] }

abbrev pub with_memory : Limits → Module → Module
with_memory l m = record m { memories = m.memories ++ l ∷ [] }

abbrev pub with_global : GlobalVar → Module → Module
with_global g m = record m { globals = m.globals ++ g ∷ [] }

abbrev pub with_export : Export → Module → Module
with_export e m = record m { exports = m.exports ++ e ∷ [] }

-- bytes for the memory from an address on, which is an i32
abbrev pub segment_at : ℕ → List ℕ → Data
segment_at offset bytes = record { offset = record { ty = I32; value = offset }; bytes = bytes }

abbrev pub with_segment : Data → Module → Module
with_segment d m = record m { datas = m.datas ++ d ∷ [] }
