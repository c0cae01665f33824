-- What the module of a unit exports: its memory, and the functions of the FMI 3.0 C API (section 2.3) that a bench
-- calls, with the types that they have in this project's binding. A value reference, a flag, a length and an address
-- are an i32, a moment and a step size an i64, and what is returned is the status.
use Rattle.std.specs.Prelude.{ℕ, ◌+◌, ◌==◌, Bool, false, List, [], ◌∷◌, Option, Some, None, codes, bytes_eq, map, if◌then◌else◌}
use Rattle.wasm_types.specs.declared.instr.ValType.TheVariants.{I32, I64}
use Rattle.wasm_types.specs.declared.module.FuncType.{FuncType}
use Rattle.wasm_types.specs.declared.module.Export.{Export}
use Rattle.wasm_types.specs.Modules.{NestedModule}
use Rattle.code_specs.specs.Signatures.{is_same_type, type_of_function}
use Rattle.binding_specs.specs.declared.function.Function.{Function}
use Rattle.binding_specs.specs.declared.function.Function.TheVariants.{Area, Instantiate, EnterInit, ExitInit, EnterEvent, EnterStep, SetClock, SetBinary, GetClock, GetBinary, Update, GetInterval, DoStep, Terminate, Free}
use Rattle.binding_specs.specs.declared.error.BindError.{BindError}
use Rattle.binding_specs.specs.declared.error.BindError.TheVariants.{Missing, Signature}

-- the names (FMI 3.0, section 2.3, and bench_area)
abbrev pub name_of : Function → List ℕ
name_of Area = codes "bench_area"
name_of Instantiate = codes "fmi3InstantiateCoSimulation"
name_of EnterInit = codes "fmi3EnterInitializationMode"
name_of ExitInit = codes "fmi3ExitInitializationMode"
name_of EnterEvent = codes "fmi3EnterEventMode"
name_of EnterStep = codes "fmi3EnterStepMode"
name_of SetClock = codes "fmi3SetClock"
name_of SetBinary = codes "fmi3SetBinary"
name_of GetClock = codes "fmi3GetClock"
name_of GetBinary = codes "fmi3GetBinary"
name_of Update = codes "fmi3UpdateDiscreteStates"
name_of GetInterval = codes "fmi3GetIntervalFraction"
name_of DoStep = codes "fmi3DoStep"
name_of Terminate = codes "fmi3Terminate"
name_of Free = codes "fmi3FreeInstance"

-- [] -> [i32], [i32] -> [i32], [i32 i32] -> [i32], [i64 i64] -> [i32], and [] -> []
abbrev pub no_parameters : FuncType
no_parameters = record { params = []; results = I32 ∷ [] }

abbrev pub one_number : FuncType
one_number = record { params = I32 ∷ []; results = I32 ∷ [] }

abbrev pub two_numbers : FuncType
two_numbers = record { params = I32 ∷ I32 ∷ []; results = I32 ∷ [] }

abbrev pub two_moments : FuncType
two_moments = record { params = I64 ∷ I64 ∷ []; results = I32 ∷ [] }

abbrev pub nothing : FuncType
nothing = record { params = []; results = [] }

-- bench_area takes the size of the area, and returns its address
abbrev pub type_of : Function → FuncType
type_of Area = one_number
type_of Instantiate = no_parameters
type_of EnterInit = no_parameters
type_of ExitInit = no_parameters
type_of EnterEvent = no_parameters
type_of EnterStep = no_parameters
type_of SetClock = two_numbers
type_of SetBinary = two_numbers
type_of GetClock = one_number
type_of GetBinary = one_number
type_of Update = no_parameters
type_of GetInterval = one_number
type_of DoStep = two_moments
type_of Terminate = no_parameters
type_of Free = nothing

-- what is asked of an export: its name, and that it is a memory, or a function of a type
pub data Item : Type 0 where
  AMemory : Item
  AFunction : (ty : FuncType) → Item

pub record Row : Type 0 where
  pub name : List ℕ
  pub item : Item

abbrev pub function_row : Function → Row
function_row f = record { name = name_of f; item = AFunction (type_of f) }

abbrev pub functions : List Function
functions = Area ∷ Instantiate ∷ EnterInit ∷ ExitInit ∷ EnterEvent ∷ EnterStep ∷ SetClock ∷ SetBinary ∷ GetClock
    ∷ GetBinary ∷ Update ∷ GetInterval ∷ DoStep ∷ Terminate ∷ Free ∷ []

-- the sixteen rows
abbrev pub rows : List Row
rows = record { name = codes "memory"; item = AMemory } ∷ map function_row functions

-- ---- what a module has

-- the first export with a name; a valid module has no other
abbrev pub export_named : List ℕ → List Export → Option Export
export_named name [] = None
export_named name (e ∷ es) = if bytes_eq e.name name then Some e else export_named name es

-- the type of an exported function, None where it is no function
abbrev pub exported_type : NestedModule → Export → Option FuncType
exported_type m e = if e.kind == 0 then type_of_function m e.index else None

abbrev pub is_type : FuncType → Option FuncType → Bool
is_type asked None = false
is_type asked (Some has) = is_same_type asked has

abbrev pub is_item : NestedModule → Export → Item → Bool
is_item m e AMemory = e.kind == 2
is_item m e (AFunction ty) = is_type ty (exported_type m e)

-- ---- the first row that the module doesn't have

abbrev pub fault_at : NestedModule → (row : ℕ) → Item → Option Export → Option BindError
fault_at m row item None = Some (Missing row)
fault_at m row item (Some e) = if is_item m e item then None else Some (Signature row)

abbrev pub or_else : Option BindError → Option BindError → Option BindError
or_else None next = next
or_else (Some fault) next = Some fault

-- of these rows, the first of which has this number
abbrev pub first_fault_from : NestedModule → (row : ℕ) → List Row → Option BindError
first_fault_from m row [] = None
first_fault_from m row (r ∷ rs) = or_else (fault_at m row r.item (export_named r.name m.exports)) (first_fault_from m (row + 1) rs)

-- the first row that is missing or of another kind or type, None where the module is that of a unit
unfoldable pub binding_fault : NestedModule → Option BindError
binding_fault m = first_fault_from m 0 rows

-- ---- the functions by which a unit is called

abbrev pub index_if : Option Export → Option ℕ
index_if None = None
index_if (Some e) = if e.kind == 0 then Some e.index else None

-- the index of a function, by its name
abbrev pub index_of : NestedModule → Function → Option ℕ
index_of m f = index_if (export_named (name_of f) m.exports)
