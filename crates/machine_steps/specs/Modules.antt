-- What a machine relies on of a module.
use Rattle.std.specs.Prelude.{◌≡◌, ℕ, ◌≤◌, true, Some, length, slice_get}
use Rattle.std.specs.List.{AllByRecursion}
use Rattle.wasm_types.specs.declared.instr.Instr.{Instr}
use Rattle.wasm_types.specs.declared.instr.Instr.TheVariants.{Numeric, Access, I32Const, I64Const}
use Rattle.wasm_types.specs.Spellable.{is_numeric_op, is_access_op, IsI32, IsI64}
use Rattle.wasm_types.specs.declared.module.FuncType.{FuncType}
use Rattle.wasm_types.specs.declared.module.Func.{Func}
use Rattle.wasm_types.specs.declared.module.Limits.{Limits}
use Rattle.wasm_types.specs.declared.module.Module.{Module}
use Rattle.wasm_types.specs.Modules.{NestedFunc, NestedModule}
use Rattle.module_specs.specs.CodeSpelling.{most_locals}
use Rattle.module_specs.specs.ModuleSpelling.{most_pages, most_entries}
use Rattle.code_specs.specs.Values.{most_slots}
use Rattle.machine_steps.specs.Nesting.{Nests}

-- a numeric instruction and an access have an opcode of theirs, and constants fit their types
abbrev pub IsEncodable : Instr → Type 0
IsEncodable (Numeric op) = is_numeric_op op ≡ true
IsEncodable (Access op align offset) = is_access_op op ≡ true
IsEncodable (I32Const z) = IsI32 z
IsEncodable (I64Const z) = IsI64 z
IsEncodable other = Unit {0}

-- no function has more locals than a frame has slots, no type has more than one result, and instructions are those that
-- files have
pub record IsReady (fm : Module) : Type 0 where
  pub locals : (i : ℕ) (f : Func) → slice_get fm.funcs i ≡ Some f → length f.locals ≤ most_slots
  pub results : (i : ℕ) (t : FuncType) → slice_get fm.types i ≡ Some t → length t.results ≤ 1
  pub encodable : (i : ℕ) (f : Func) → slice_get fm.funcs i ≡ Some f → (p : ℕ) (x : Instr) → slice_get f.body p ≡ Some x → IsEncodable x

-- a function as files have them: its lists nest so deep at most, and it has so many locals at most
pub record FuncFits (f : NestedFunc) : Type 0 where
  pub nests : Nests 0 f.code
  pub locals : length f.locals ≤ most_locals

-- so is each function, and no table and no memory begins with more than files may have
pub record HasLimits (m : NestedModule) : Type 0 where
  pub funcs : AllByRecursion FuncFits m.funcs
  pub tables : AllByRecursion (λ (l : Limits). l.min ≤ most_entries) m.tables
  pub memories : AllByRecursion (λ (l : Limits). l.min ≤ most_pages) m.memories
