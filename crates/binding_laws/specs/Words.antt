-- What the laws say of guests and their replies.
use Rattle.std.specs.Prelude.{◌≡◌, ℕ, ◌+◌, ◌<◌, ◌≤◌, Bool, true, false, None, Some, length, slice_get}
use Rattle.fmi_states.specs.declared.call.Call.{Call}
use Rattle.fmi_states.specs.declared.call.Call.TheVariants as call
use Rattle.wasm_types.specs.declared.module.Export.{Export}
use Rattle.wasm_types.specs.Modules.{NestedModule}
use Rattle.code_specs.specs.Signatures.{Function as TypedFunction, function_at}
use Rattle.binding_specs.specs.declared.function.Function.{Function}
use Rattle.binding_specs.specs.declared.error.BindError.{BindError}
use Rattle.binding_specs.specs.declared.error.BindError.TheVariants.{Missing, Signature}
use Rattle.binding_specs.specs.Exports.{Row, rows, export_named, is_item, index_of, type_of}
use Rattle.binding_specs.specs.Guests.{Guest, area_size}

abbrev pub is_instantiation : Call → Bool
is_instantiation call.Instantiate = true
is_instantiation other = false

-- the most functions that a call runs: to instantiate a guest the start function, fmi3InstantiateCoSimulation and
-- bench_area
abbrev pub most_functions : Call → ℕ
most_functions call.Instantiate = 3
most_functions other = 1

-- its area lies in its memory
abbrev pub HasArea : Guest → Type 0
HasArea g = g.area + area_size g.description ≤ length g.store.bytes

-- a row that the module has
pub record Has (m : NestedModule) (r : Row) : Type 0 where
  pub export : Export
  pub named : export_named r.name m.exports ≡ Some export
  pub is : is_item m export r.item ≡ true

-- the first row that the module doesn't have, with its number; it has all before it
pub record IsFirstFault (m : NestedModule) (n : ℕ) (r : Row) : Type 0 where
  pub row : slice_get rows n ≡ Some r
  pub before : (i : ℕ) (has : Row) → i < n → slice_get rows i ≡ Some has → Has m has

-- what a fault says: nothing has the name, or what has it is no such item
abbrev pub Faults : NestedModule → BindError → Type 0
Faults m (Missing n) = (r : Row) × IsFirstFault m n r × (export_named r.name m.exports ≡ None)
Faults m (Signature n) =
    (r : Row) × IsFirstFault m n r × (e : Export) × (export_named r.name m.exports ≡ Some e) × (is_item m e r.item ≡ false)

-- a function of the module, with its index and the type that is asked for
pub record IsThere (m : NestedModule) (f : Function) : Type 0 where
  pub index : ℕ
  pub named : index_of m f ≡ Some index
  pub function : TypedFunction
  pub found : function_at m index ≡ Some function
  pub ty : function.ty ≡ type_of f
