-- Which function of a valid module is called, or why none is.
use Rattle.std.specs.Prelude.{ℕ, ◌+◌, ◌^◌, ◌==◌, ◌&&◌, List, [], ◌∷◌, Option, Some, None, Result, Ok, Err, length, nat_lt, bytes_eq, if◌then◌else◌}
use Rattle.wasm_types.specs.declared.instr.ValType.{ValType}
use Rattle.wasm_types.specs.declared.module.FuncType.{FuncType}
use Rattle.wasm_types.specs.declared.module.Export.{Export}
use Rattle.wasm_types.specs.Spellable.{width}
use Rattle.wasm_types.specs.Modules.{NestedModule}
use Rattle.code_specs.specs.declared.segment.Misfit.{Misfit}
use Rattle.code_specs.specs.Signatures.{type_of_function}
use Rattle.code_specs.specs.Instances.{first_misfit}
use Rattle.call_specs.specs.declared.fault.CallFault.{CallFault}
use Rattle.call_specs.specs.declared.fault.CallFault.TheVariants.{Segment, Export as NotExported, Args}

-- the function that is exported under a name (WebAssembly Core 1.0, section 2.5.10)
abbrev pub exported_function : List ℕ → List Export → Option ℕ
exported_function name [] = None
exported_function name (e ∷ es) =
    if e.kind == 0 && bytes_eq e.name name then Some e.index else exported_function name es

-- the position of the first argument that is no number of its type, counted on from this one
abbrev pub first_unfit : (place : ℕ) → List ValType → List ℕ → Option ℕ
first_unfit place [] arguments = None
first_unfit place (t ∷ ts) [] = None
first_unfit place (t ∷ ts) (n ∷ ns) = if nat_lt n (2 ^ width t) then first_unfit (place + 1) ts ns else Some place

-- where the arguments aren't those of a function of this type
abbrev pub arguments_fault : FuncType → List ℕ → Option ℕ
arguments_fault f arguments =
    if length arguments == length f.params then first_unfit 0 f.params arguments else Some (length arguments)

abbrev pub called_with : (index : ℕ) → Option ℕ → Result ℕ CallFault
called_with index None = Ok index
called_with index (Some place) = Err (Args place)

abbrev pub called_of_type : (index : ℕ) → List ℕ → Option FuncType → Result ℕ CallFault
called_of_type index arguments None = Err NotExported
called_of_type index arguments (Some f) = called_with index (arguments_fault f arguments)

abbrev pub called_at : NestedModule → List ℕ → Option ℕ → Result ℕ CallFault
called_at m arguments None = Err NotExported
called_at m arguments (Some index) = called_of_type index arguments (type_of_function m index)

abbrev pub called_where_all_fit : NestedModule → List ℕ → List ℕ → Option Misfit → Result ℕ CallFault
called_where_all_fit m name arguments None = called_at m arguments (exported_function name m.exports)
called_where_all_fit m name arguments (Some misfit) = Err (Segment misfit)

-- the function that is called by this name with these arguments, or the first condition that fails
abbrev pub called : NestedModule → (name : List ℕ) → (arguments : List ℕ) → Result ℕ CallFault
called m name arguments = called_where_all_fit m name arguments (first_misfit m)
