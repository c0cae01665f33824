-- What a valid module has: functions with types, a table of such functions, and typed bodies.
use Rattle.std.proofs.Common.{◌≡◌, ℕ, zero, suc, ◌+◌, ◌<◌, List, [], ◌∷◌, ◌++◌, length, Option, Some, None, refl, sym, ap, ◌∙◌, subst, Bool, true, false, arith}
use Rattle.std.specs.Prelude.{Ok, Err, cond, map, take, drop, replicate, nat_lt, slice_get, option_map, option_and_then, is_some, ◌&&◌}
use Rattle.std.specs.List.{list_all}
use Rattle.std.proofs.lemmas.Bool.{ltb-true}
use Rattle.wasm_types.specs.declared.instr.ValType.TheVariants.{I32}
use Rattle.wasm_types.specs.declared.module.FuncType.{FuncType}
use Rattle.wasm_types.specs.declared.module.Element.{Element}
use Rattle.wasm_types.specs.Modules.{NestedFunc, NestedModule}
use Rattle.code_specs.specs.declared.rule.Rule.{Rule}
use Rattle.code_specs.specs.declared.rule.Rule.TheVariants as rule
use Rattle.code_specs.specs.Values.{is_same}
use Rattle.code_specs.specs.Stores.{replaced_at}
use Rattle.code_specs.specs.Signatures.{Function, typed_function, function_at, type_of_function}
use Rattle.code_specs.specs.Instances.{first_failing, with_elements, table_size, table_of}
use Rattle.code_specs.specs.Typing.{Found, OperandTypes, type_of_func}
use Rattle.code_specs.specs.Validity.{fails_at, each, has_one_result, has_type, is_ordered, is_memory_type, failing_limits, is_initialized, failing_export, failing_start, is_element, is_data, body_verdict, func_verdict, bodies_verdict, validity, IsValid}
use Rattle.code_laws.proofs.Tests.{passed, both, some_is}
use Rattle.code_laws.proofs.Effected.{HasTable}

-- ---- rules that hold of each item

pub none_fails : (r : Rule) (o : Option ℕ) (u : Unit {0}) → fails_at r o ≡ Ok u → o ≡ None
none_fails r None u is = refl
none_fails r (Some place) u is = cc

-- an item that is looked at passes, and so do those behind it
one_passes : {A : Type 0} (test : A → Bool) (place : ℕ) (y : A) (ys : List A) (b : Bool) → test y ≡ b
    → first_failing test place (y ∷ ys) ≡ None → (test y ≡ true) × (first_failing test (place + 1) ys ≡ None)
one_passes test place y ys true t is = (t, sym (ap (λ b. cond b (first_failing test (place + 1) ys) (Some place)) t) ∙ is)
one_passes test place y ys false t is =
    absurd (let wrong : Some place ≡ None = sym (ap (λ b. cond b (first_failing test (place + 1) ys) (Some place)) t) ∙ is in cc)

-- where no item fails each passes
pub each_passes : {A : Type 0} (test : A → Bool) (place : ℕ) (xs : List A) → first_failing test place xs ≡ None
    → (i : ℕ) (x : A) → slice_get xs i ≡ Some x → test x ≡ true
each_passes test place [] is i x at = cc
each_passes test place (y ∷ ys) is zero x at = ap test (sym (some_is y x at)) ∙ (one_passes test place y ys (test y) refl is).0
each_passes test place (y ∷ ys) is (suc i) x at = each_passes test (place + 1) ys (one_passes test place y ys (test y) refl is).1 i x at

got : {A : Type 0} (xs : List A) (i : ℕ) → i < length xs → (x : A) × (slice_get xs i ≡ Some x)
got [] i lt = absurd (omega (arith, lt))
got (x ∷ xs) zero lt = (x, refl)
got (x ∷ xs) (suc i) lt = got xs i (omega (arith, lt))

-- what of validity is needed here
pub record Parts (m : NestedModule) : Type 0 where
  pub funcs : first_failing (has_type m) 0 m.funcs ≡ None
  pub elements : first_failing (is_element m) 0 m.elements ≡ None
  pub bodies : bodies_verdict m 0 m.funcs ≡ Ok tt

pub parts_of : (m : NestedModule) → IsValid m → Parts m
unfolding validity
parts_of m is =
    let types = passed (each rule.TypeResult has_one_result m.types) _ tt is in
    let funcs = passed (each rule.FuncType (has_type m) m.funcs) _ tt types.then in
    let tables = passed (fails_at rule.Limits (failing_limits is_ordered m.tables)) _ tt funcs.then in
    let memories = passed (fails_at rule.Limits (failing_limits is_memory_type m.memories)) _ tt tables.then in
    let globals = passed (each rule.Global is_initialized m.globals) _ tt memories.then in
    let exports = passed (fails_at rule.Export (failing_export m [] 0 m.exports)) _ tt globals.then in
    let start = passed (fails_at rule.Start (failing_start m m.start)) _ tt exports.then in
    let elements = passed (each rule.Element (is_element m) m.elements) _ tt start.then in
    let datas = passed (each rule.Data (is_data m) m.datas) _ tt elements.then in
    record {
      funcs = none_fails rule.FuncType (first_failing (has_type m) 0 m.funcs) funcs.it funcs.is;
      elements = none_fails rule.Element (first_failing (is_element m) 0 m.elements) elements.it elements.is;
      bodies = datas.then;
    }

-- ---- functions

-- a function that is there, with its type
record There (m : NestedModule) (index : ℕ) : Type 0 where
  func : NestedFunc
  ty : FuncType
  func_is : slice_get m.funcs index ≡ Some func
  ty_is : slice_get m.types func.ty ≡ Some ty

there : (m : NestedModule) → Parts m → (index : ℕ) → index < length m.funcs → There m index
there m p index lt =
    let x = got m.funcs index lt in
    let y = got m.types x.0.ty (ltb-true x.0.ty (length m.types) (each_passes (has_type m) 0 m.funcs p.funcs index x.0 x.1)) in
    record { func = x.0; ty = y.0; func_is = x.1; ty_is = y.1 }

type_there : (m : NestedModule) (index : ℕ) (t : There m index) → type_of_function m index ≡ Some t.ty
type_there m index t =
    ap (λ o. option_map (λ (f : Function). f.ty) (option_and_then (λ f. option_map (typed_function f) (slice_get m.types f.ty)) o))
    t.func_is
    ∙ ap (λ o. option_map (λ (f : Function). f.ty) (option_map (typed_function t.func) o)) t.ty_is

-- ---- the table

-- each function of a table is one of so many
abbrev AllBelow : ℕ → List (Option ℕ) → Type 0
AllBelow n [] = Unit {0}
AllBelow n (None ∷ entries) = AllBelow n entries
AllBelow n (Some index ∷ entries) = (index < n) × AllBelow n entries

below_at : (n : ℕ) (entries : List (Option ℕ)) → AllBelow n entries → (at index : ℕ) → slice_get entries at ≡ Some (Some index) → index < n
below_at n [] all at index is = cc
below_at n (None ∷ entries) all zero index is = cc
below_at n (None ∷ entries) all (suc at) index is = below_at n entries all at index is
below_at n (Some i ∷ entries) all zero index is = subst (λ i. i < n) (some_is i index (some_is (Some i) (Some index) is)) all.0
below_at n (Some i ∷ entries) all (suc at) index is = below_at n entries all.1 at index is

below_empty : (n count : ℕ) → AllBelow n (replicate count None)
below_empty n zero = tt
below_empty n (suc count) = below_empty n count

below_append : (n : ℕ) (xs ys : List (Option ℕ)) → AllBelow n xs → AllBelow n ys → AllBelow n (xs ++ ys)
below_append n [] ys g h = h
below_append n (None ∷ xs) ys g h = below_append n xs ys g h
below_append n (Some i ∷ xs) ys g h = (g.0, below_append n xs ys g.1 h)

below_take : (n count : ℕ) (xs : List (Option ℕ)) → AllBelow n xs → AllBelow n (take count xs)
below_take n zero xs h = tt
below_take n (suc count) [] h = tt
below_take n (suc count) (None ∷ xs) h = below_take n count xs h
below_take n (suc count) (Some i ∷ xs) h = (h.0, below_take n count xs h.1)

below_drop : (n count : ℕ) (xs : List (Option ℕ)) → AllBelow n xs → AllBelow n (drop count xs)
below_drop n zero xs h = h
below_drop n (suc count) [] h = tt
below_drop n (suc count) (None ∷ xs) h = below_drop n count xs h
below_drop n (suc count) (Some i ∷ xs) h = below_drop n count xs h.1

below_new : (n : ℕ) (funcs : List ℕ) → list_all (λ index. nat_lt index n) funcs ≡ true → AllBelow n (map Some funcs)
below_new n [] h = tt
below_new n (index ∷ funcs) h =
    let x = both (nat_lt index n) (list_all (λ index. nat_lt index n) funcs) h in
    (ltb-true index n x.0, below_new n funcs x.1)

-- each segment names functions that are there
abbrev AllNamed : NestedModule → List Element → Type 0
AllNamed m es = (i : ℕ) (e : Element) → slice_get es i ≡ Some e → list_all (λ index. nat_lt index (length m.funcs)) e.funcs ≡ true

named : (m : NestedModule) → Parts m → AllNamed m m.elements
named m p i e at =
    let x = both (is_some (slice_get m.tables 0)) (is_same I32 e.offset.ty && list_all (λ index. nat_lt index (length m.funcs)) e.funcs)
    (by_parts (each_passes (is_element m) 0 m.elements p.elements i e at)) in
    (both (is_same I32 e.offset.ty) (list_all (λ index. nat_lt index (length m.funcs)) e.funcs) x.1).1
  where
    regrouped : (a b c : Bool) → (a && b && c) ≡ true → (a && (b && c)) ≡ true
    regrouped true b c h = h
    regrouped false b c h = cc

    by_parts : is_element m e ≡ true → (is_some (slice_get m.tables 0) && (is_same I32 e.offset.ty && list_all
        (λ index. nat_lt index (length m.funcs)) e.funcs)) ≡ true
    by_parts h = regrouped (is_some (slice_get m.tables 0)) (is_same I32 e.offset.ty)
        (list_all (λ index. nat_lt index (length m.funcs)) e.funcs) h

filled : (m : NestedModule) (es : List Element) (entries : List (Option ℕ)) → AllNamed m es → AllBelow (length m.funcs) entries
    → AllBelow (length m.funcs) (with_elements es entries)
filled m [] entries names h = h
filled m (e ∷ es) entries names h =
    let n = length m.funcs in
    let new = map Some e.funcs in
    filled m es (replaced_at entries e.offset.value new) (λ i f at. names (suc i) f at)
    (below_append n (take e.offset.value entries) (new ++ drop (e.offset.value + length new) entries)
    (below_take n e.offset.value entries h)
    (below_append n new (drop (e.offset.value + length new) entries) (below_new n e.funcs (names 0 e refl))
    (below_drop n (e.offset.value + length new) entries h)))

pub table_is : (m : NestedModule) → Parts m → HasTable m
unfolding table_of
table_is m p at index is =
    let lt = below_at (length m.funcs) (with_elements m.elements (replicate (table_size m) None))
    (filled m m.elements (replicate (table_size m) None) (named m p) (below_empty (length m.funcs) (table_size m))) at index is in
    let t = there m p index lt in
    (t.ty, type_there m index t)

-- ---- bodies

-- the function of an index, taken apart
record Taken (m : NestedModule) (index : ℕ) (f : Function) : Type 0 where
  func : NestedFunc
  ty : FuncType
  func_is : slice_get m.funcs index ≡ Some func
  ty_is : slice_get m.types func.ty ≡ Some ty
  is : typed_function func ty ≡ f

taken : (m : NestedModule) (index : ℕ) (f : Function) → function_at m index ≡ Some f → Taken m index f
taken m index f is = by_func (slice_get m.funcs index) refl is
  where
    by_type : (nf : NestedFunc) (t : Option FuncType) → slice_get m.funcs index ≡ Some nf → slice_get m.types nf.ty ≡ t
        → option_map (typed_function nf) t ≡ Some f → Taken m index f
    by_type nf None fi ti e = cc
    by_type nf (Some t) fi ti e = record { func = nf; ty = t; func_is = fi; ty_is = ti; is = some_is (typed_function nf t) f e }

    by_func : (o : Option NestedFunc) → slice_get m.funcs index ≡ o
        → option_and_then (λ nf. option_map (typed_function nf) (slice_get m.types nf.ty)) o ≡ Some f → Taken m index f
    by_func None fi e = cc
    by_func (Some nf) fi e = by_type nf (slice_get m.types nf.ty) fi refl e

body_typed : (place : ℕ) (o : Found OperandTypes) (u : Unit {0}) → body_verdict place o ≡ Ok u → (s : OperandTypes) × (o ≡ Ok s)
body_typed place (Ok s) u is = (s, refl)
body_typed place (Err e) u is = cc

bodies_typed : (m : NestedModule) (place : ℕ) (fs : List NestedFunc) (u : Unit {0}) → bodies_verdict m place fs ≡ Ok u
    → (i : ℕ) (nf : NestedFunc) (t : FuncType) → slice_get fs i ≡ Some nf → slice_get m.types nf.ty ≡ Some t
    → (s : OperandTypes) × (type_of_func m (typed_function nf t) ≡ Ok s)
bodies_typed m place [] u is i nf t at ty = cc
bodies_typed m place (g ∷ fs) u is zero nf t at ty =
    let x = passed (func_verdict m place g (slice_get m.types g.ty)) (λ _. bodies_verdict m (place + 1) fs) u is in
    let same = some_is g nf at in
    let here : func_verdict m place nf (Some t) ≡ Ok x.it
    = ap (func_verdict m place nf) (sym ty) ∙ ap (λ (g : NestedFunc). func_verdict m place g (slice_get m.types g.ty)) (sym same) ∙ x.is in
    body_typed place (type_of_func m (typed_function nf t)) x.it here
bodies_typed m place (g ∷ fs) u is (suc i) nf t at ty =
    let x = passed (func_verdict m place g (slice_get m.types g.ty)) (λ _. bodies_verdict m (place + 1) fs) u is in
    bodies_typed m (place + 1) fs u x.then i nf t at ty

-- each function of the module has a typed body
pub functions_typed : (m : NestedModule) → Parts m → (index : ℕ) (f : Function) → function_at m index ≡ Some f
    → (s : OperandTypes) × (type_of_func m f ≡ Ok s)
functions_typed m p index f is =
    let x = taken m index f is in
    let y = bodies_typed m 0 m.funcs tt p.bodies index x.func x.ty x.func_is x.ty_is in
    (y.0, ap (type_of_func m) (sym x.is) ∙ y.1)
