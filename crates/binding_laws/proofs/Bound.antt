-- What a module has that is that of a unit, and what its functions come to.
use Rattle.std.specs.Prelude.{◌≡◌, ℕ, ◌+◌, ◌==◌, Bool, true, false, List, [], ◌∷◌, reverse, Option, None, Some, option_map, cond, refl}
use Rattle.std.proofs.Common.{sym, ap, ◌∙◌, subst}
use Rattle.wasm_types.specs.declared.module.FuncType.{FuncType}
use Rattle.wasm_types.specs.declared.module.Export.{Export}
use Rattle.wasm_types.specs.Modules.{NestedModule}
use Rattle.code_specs.specs.Stores.{Store}
use Rattle.code_specs.specs.Signatures.{Function as TypedFunction, function_at, type_of_function}
use Rattle.code_specs.specs.Execution.{answer_of}
use Rattle.code_specs.specs.Validity.{IsValid}
use Rattle.code_laws.specs.Answers.{Fit, AnswersWith}
use Rattle.code_laws.proofs.Tests.{some_is}
use Rattle.code_laws.proofs.Effected.{type_is}
use Rattle.code_laws.proofs.Calling.{answers}
use Rattle.binding_specs.specs.declared.function.Function.{Function}
use Rattle.binding_specs.specs.declared.function.Function.TheVariants.{Area, Instantiate, EnterInit, ExitInit, EnterEvent, EnterStep, SetClock, SetBinary, GetClock, GetBinary, Update, GetInterval, DoStep, Terminate, Free}
use Rattle.binding_specs.specs.declared.error.BindError.{BindError}
use Rattle.binding_specs.specs.declared.error.BindError.TheVariants.{Signature}
use Rattle.binding_specs.specs.Exports.{Row, function_row, type_of, rows, export_named, exported_type, is_type, is_item, fault_at, or_else, first_fault_from, binding_fault, index_if}
use Rattle.binding_laws.specs.Words.{Has, IsThere}

-- ---- rows

abbrev Have : NestedModule → List Row → Type 0
Have m [] = Unit {0}
Have m (r ∷ rs) = Has m r × Have m rs

row_has : (m : NestedModule) (n : ℕ) (r : Row) (o : Option Export) → export_named r.name m.exports ≡ o → fault_at m n r.item o ≡ None
    → Has m r
row_has m n r None at h = cc
row_has m n r (Some e) at h = record { export = e; named = at; is = of_test (is_item m e r.item) refl h }
  where
    of_test : (b : Bool) → is_item m e r.item ≡ b → cond b None (Some (Signature n)) ≡ None → is_item m e r.item ≡ true
    of_test true is h = is
    of_test false is h = cc

or_none : (first next : Option BindError) → or_else first next ≡ None → (first ≡ None) × (next ≡ None)
or_none None next h = (refl, h)
or_none (Some fault) next h = cc

all_have : (m : NestedModule) (n : ℕ) (rs : List Row) → first_fault_from m n rs ≡ None → Have m rs
all_have m n [] h = tt
all_have m n (r ∷ rs) h =
    let x = or_none (fault_at m n r.item (export_named r.name m.exports)) (first_fault_from m (n + 1) rs) h in
    (row_has m n r (export_named r.name m.exports) refl x.0, all_have m (n + 1) rs x.1)

rows_have : (m : NestedModule) → binding_fault m ≡ None → Have m rows
unfolding binding_fault
rows_have m h = all_have m 0 rows h

row_of : (m : NestedModule) → Have m rows → (f : Function) → Has m (function_row f)
row_of m h Area = h.1.0
row_of m h Instantiate = h.1.1.0
row_of m h EnterInit = h.1.1.1.0
row_of m h ExitInit = h.1.1.1.1.0
row_of m h EnterEvent = h.1.1.1.1.1.0
row_of m h EnterStep = h.1.1.1.1.1.1.0
row_of m h SetClock = h.1.1.1.1.1.1.1.0
row_of m h SetBinary = h.1.1.1.1.1.1.1.1.0
row_of m h GetClock = h.1.1.1.1.1.1.1.1.1.0
row_of m h GetBinary = h.1.1.1.1.1.1.1.1.1.1.0
row_of m h Update = h.1.1.1.1.1.1.1.1.1.1.1.0
row_of m h GetInterval = h.1.1.1.1.1.1.1.1.1.1.1.1.0
row_of m h DoStep = h.1.1.1.1.1.1.1.1.1.1.1.1.1.0
row_of m h Terminate = h.1.1.1.1.1.1.1.1.1.1.1.1.1.1.0
row_of m h Free = h.1.1.1.1.1.1.1.1.1.1.1.1.1.1.1.0

-- ---- functions

-- what the type of an export says, where it is that of a function
record IsFunction (m : NestedModule) (e : Export) (t : FuncType) : Type 0 where
  pub kind : (e.kind == 0) ≡ true
  pub ty : type_of_function m e.index ≡ Some t

is_function : (m : NestedModule) (e : Export) (t : FuncType) → is_type t (exported_type m e) ≡ true → IsFunction m e t
is_function m e t h = of_kind (e.kind == 0) refl h
  where
    of_type : (o : Option FuncType) → type_of_function m e.index ≡ o → is_type t o ≡ true → type_of_function m e.index ≡ Some t
    of_type None at h = cc
    of_type (Some u) at h = at ∙ ap (λ (u : FuncType). Some u) (sym (type_is t u h))

    of_kind : (b : Bool) → (e.kind == 0) ≡ b → is_type t (cond b (type_of_function m e.index) None) ≡ true → IsFunction m e t
    of_kind true is h = record { kind = is; ty = of_type (type_of_function m e.index) refl h }
    of_kind false is h = cc

function_of_type : (m : NestedModule) (index : ℕ) (t : FuncType) → type_of_function m index ≡ Some t
    → (f : TypedFunction) × (function_at m index ≡ Some f) × (f.ty ≡ t)
function_of_type m index t is = by_function (function_at m index) refl is
  where
    by_function : (o : Option TypedFunction) → function_at m index ≡ o → option_map (λ (f : TypedFunction). f.ty) o ≡ Some t
        → (f : TypedFunction) × (function_at m index ≡ Some f) × (f.ty ≡ t)
    by_function None at e = cc
    by_function (Some f) at e = (f, at, some_is f.ty t e)

index_is : (e : Export) → (e.kind == 0) ≡ true → index_if (Some e) ≡ Some e.index
index_is e h = rw h refl

pub is_there : (m : NestedModule) → binding_fault m ≡ None → (f : Function) → IsThere m f
is_there m bound f =
    let has = row_of m (rows_have m bound) f in
    let e = has.export in
    let is = is_function m e (type_of f) has.is in
    let found = function_of_type m e.index (type_of f) is.ty in
    record {
      index = e.index;
      named = ap index_if has.named ∙ index_is e is.kind;
      function = found.0;
      found = found.1;
      ty = found.2;
    }

pub comes_to : (m : NestedModule) → IsValid m → (f : Function) (there : IsThere m f) (arguments : List ℕ) (s : Store) (fuel : ℕ)
    → Fit (type_of f).params arguments → AnswersWith (reverse (type_of f).results) (answer_of m there.index arguments s fuel)
comes_to m valid f there arguments s fuel fit =
    subst (λ (t : FuncType). AnswersWith (reverse t.results) (answer_of m there.index arguments s fuel)) there.ty
    (answers m valid there.index there.function arguments s fuel there.found
    (subst (λ (t : FuncType). Fit t.params arguments) (sym there.ty) fit))
