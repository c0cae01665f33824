-- Which modules are valid, and the first rule that fails (WebAssembly Core 1.0, section 3.4), together.
use Rattle.std.specs.Prelude.{◌≡◌, ℕ, ◌+◌, ◌==◌, ◌&&◌, not, Bool, true, false, List, [], ◌∷◌, Option, Some, None, Result, Ok, Err, length, nat_lt, nat_le, slice_get, is_some, if◌then◌else◌}
use Rattle.std.specs.Option.{option_map_or}
use Rattle.std.specs.List.{list_any, list_all}
use Rattle.wasm_types.specs.declared.instr.ValType.TheVariants.{I32}
use Rattle.wasm_types.specs.declared.module.FuncType.{FuncType}
use Rattle.wasm_types.specs.declared.module.Limits.{Limits}
use Rattle.wasm_types.specs.declared.module.GlobalVar.{GlobalVar}
use Rattle.wasm_types.specs.declared.module.Export.{Export}
use Rattle.wasm_types.specs.declared.module.Element.{Element}
use Rattle.wasm_types.specs.declared.module.Data.{Data}
use Rattle.wasm_types.specs.Modules.{NestedFunc, NestedModule}
use Rattle.code_specs.specs.declared.rule.Rule.{Rule}
use Rattle.code_specs.specs.declared.rule.Rule.TheVariants as rule
use Rattle.code_specs.specs.Values.{is_same}
use Rattle.code_specs.specs.Signatures.{is_same_type, type_of_function, typed_function}
use Rattle.code_specs.specs.Instances.{first_failing}
use Rattle.code_specs.specs.Typing.{Found, OperandTypes, ◌>>=◌, type_of_func}

-- a rule that fails, the position of the item in its list, and in a body that of the instruction in its flat form
pub record Invalid : Type 0 where
  pub rule : Rule
  pub place : ℕ
  pub at : ℕ

abbrev pub Verdict : Type 0
Verdict = Result (Unit {0}) Invalid

-- a rule fails at a place, if there is one
abbrev pub fails_at : Rule → Option ℕ → Verdict
fails_at r None = Ok tt
fails_at r (Some place) = Err (record { rule = r; place = place; at = 0 })

-- each item of a list passes a test
abbrev pub each : {A : Type 0} → Rule → (A → Bool) → List A → Verdict
each r test items = fails_at r (first_failing test 0 items)

-- 3.2.2: one result at most
abbrev pub has_one_result : FuncType → Bool
has_one_result f = nat_le (length f.results) 1

-- 3.4.1: the type of a function is there
abbrev pub has_type : NestedModule → NestedFunc → Bool
has_type m f = nat_lt f.ty (length m.types)

-- 3.2.1: the least size isn't over the greatest
abbrev pub is_ordered : Limits → Bool
is_ordered l = option_map_or (λ max. nat_le l.min max) l.max true

-- 3.2.4: nor is the greatest size of a memory over 2^16 pages
abbrev pub is_memory_type : Limits → Bool
is_memory_type l = is_ordered l && option_map_or (λ max. nat_le max 65536) l.max true

-- 3.4.10: there is one table or memory at most, and its type is valid
abbrev pub failing_limits : (Limits → Bool) → List Limits → Option ℕ
failing_limits test [] = None
failing_limits test (l ∷ []) = if test l then None else Some 0
failing_limits test (l ∷ other ∷ rest) = if test l then Some 1 else Some 0

-- 3.4.4: the constant has the global's type
abbrev pub is_initialized : GlobalVar → Bool
is_initialized g = is_same g.ty g.init.ty

-- 3.4.8: how many functions, tables, memories or globals there are
abbrev pub count_of_kind : NestedModule → ℕ → ℕ
count_of_kind m kind =
    if kind == 0 then length m.funcs
    else if kind == 1 then length m.tables
    else if kind == 2 then length m.memories
    else if kind == 3 then length m.globals
    else 0

abbrev pub is_same_name : List ℕ → List ℕ → Bool
is_same_name [] [] = true
is_same_name [] (y ∷ ys) = false
is_same_name (x ∷ xs) [] = false
is_same_name (x ∷ xs) (y ∷ ys) = x == y && is_same_name xs ys

-- 3.4.8 and 3.4.10: what is exported is there, and no export before has its name
abbrev pub failing_export : NestedModule → List (List ℕ) → (place : ℕ) → List Export → Option ℕ
failing_export m names place [] = None
failing_export m names place (e ∷ es) =
    if nat_lt e.index (count_of_kind m e.kind) && not (list_any (is_same_name e.name) names)
    then failing_export m (e.name ∷ names) (place + 1) es
    else Some place

-- 3.4.7: [] -> []
abbrev pub can_start : Option FuncType → Bool
can_start None = false
can_start (Some f) = is_same_type f (record { params = []; results = [] })

abbrev pub failing_start : NestedModule → Option ℕ → Option ℕ
failing_start m None = None
failing_start m (Some index) = if can_start (type_of_function m index) then None else Some 0

-- 3.4.5: a table, an offset of type i32, and functions that are there
abbrev pub is_element : NestedModule → Element → Bool
is_element m e =
    is_some (slice_get m.tables 0) && is_same I32 e.offset.ty && list_all (λ index. nat_lt index (length m.funcs)) e.funcs

-- 3.4.6: a memory, and an offset of type i32
abbrev pub is_data : NestedModule → Data → Bool
is_data m d = is_some (slice_get m.memories 0) && is_same I32 d.offset.ty

-- what is found in the body of the function at this place
abbrev pub body_verdict : (place : ℕ) → Found OperandTypes → Verdict
body_verdict place (Ok s) = Ok tt
body_verdict place (Err failing) = Err (record { rule = failing.rule; place = place; at = failing.at })

abbrev pub func_verdict : NestedModule → (place : ℕ) → NestedFunc → Option FuncType → Verdict
func_verdict m place f None = fails_at rule.FuncType (Some place)
func_verdict m place f (Some t) = body_verdict place (type_of_func m (typed_function f t))

-- the bodies, function by function
abbrev pub bodies_verdict : NestedModule → (place : ℕ) → List NestedFunc → Verdict
bodies_verdict m place [] = Ok tt
bodies_verdict m place (f ∷ fs) =
    func_verdict m place f (slice_get m.types f.ty) >>= λ _. bodies_verdict m (place + 1) fs

-- all rules, in order
unfoldable pub validity : NestedModule → Verdict
validity m = do
  types ← each rule.TypeResult has_one_result m.types
  funcs ← each rule.FuncType (has_type m) m.funcs
  tables ← fails_at rule.Limits (failing_limits is_ordered m.tables)
  memories ← fails_at rule.Limits (failing_limits is_memory_type m.memories)
  globals ← each rule.Global is_initialized m.globals
  exports ← fails_at rule.Export (failing_export m [] 0 m.exports)
  start ← fails_at rule.Start (failing_start m m.start)
  elements ← each rule.Element (is_element m) m.elements
  datas ← each rule.Data (is_data m) m.datas
  bodies_verdict m 0 m.funcs

-- no rule fails
abbrev pub IsValid : NestedModule → Type 0
IsValid m = validity m ≡ Ok tt
