-- What the laws say of stores.
use Rattle.std.specs.Prelude.{ℕ, ◌≤◌, List, length, map}
use Rattle.wasm_types.specs.declared.instr.ValType.{ValType}
use Rattle.wasm_types.specs.declared.module.GlobalVar.{GlobalVar}
use Rattle.wasm_types.specs.Modules.{NestedModule}
use Rattle.code_specs.specs.Values.{Value}
use Rattle.code_specs.specs.Stores.{Store}
use Rattle.code_specs.specs.Execution.{Answer, Returned, Trapped, Spent, Stuck}
use Rattle.code_laws.specs.Answers.{Fit}

abbrev pub types_of_globals : NestedModule → List ValType
types_of_globals m = map (λ (g : GlobalVar). g.ty) m.globals

-- there is a number for each global of the module, in the range of its type
abbrev pub GlobalsFit : NestedModule → Store → Type 0
GlobalsFit m s = Fit (types_of_globals m) s.globals

-- so it is when the call is over, however it ends
abbrev pub LeavesGlobals : NestedModule → Answer Value → Type 0
LeavesGlobals m (Returned vs s fuel) = GlobalsFit m s
LeavesGlobals m (Trapped kind s fuel) = GlobalsFit m s
LeavesGlobals m (Spent s) = GlobalsFit m s
LeavesGlobals m Stuck = Unit {0}

-- the memory has as many bytes as this at least
abbrev pub HasBytes : (count : ℕ) → Store → Type 0
HasBytes count s = count ≤ length s.bytes

-- so it has when the call is over, however it ends
abbrev pub LeavesBytes : (count : ℕ) → Answer Value → Type 0
LeavesBytes count (Returned vs s fuel) = HasBytes count s
LeavesBytes count (Trapped kind s fuel) = HasBytes count s
LeavesBytes count (Spent s) = HasBytes count s
LeavesBytes count Stuck = Unit {0}
