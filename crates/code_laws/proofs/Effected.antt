-- A typed instruction finds what it asks for.
use Rattle.std.proofs.Common.{◌≡◌, ℕ, zero, suc, List, [], ◌∷◌, ◌++◌, Option, Some, None, refl, sym, ap, ◌∙◌, subst, Bool, true, false}
use Rattle.std.specs.Prelude.{Ok, Err, cond, reverse, slice_get, slice_index_or, ◌==◌}
use Rattle.std.specs.List.{list_all}
use Rattle.wasm_types.specs.declared.instr.ValType.{ValType}
use Rattle.wasm_types.specs.declared.instr.ValType.TheVariants.{I32}
use Rattle.wasm_types.specs.declared.instr.Instr.{Instr}
use Rattle.wasm_types.specs.declared.instr.Instr.TheVariants.{Unreachable, Br, BrIf, BrTable, Return, Call, CallIndirect, Drop, Select, Local}
use Rattle.wasm_types.specs.declared.module.FuncType.{FuncType}
use Rattle.wasm_types.specs.Modules.{NestedModule}
use Rattle.code_specs.specs.declared.rule.Rule.TheVariants.{Operand}
use Rattle.code_specs.specs.declared.trap.TrapKind.TheVariants as trap
use Rattle.code_specs.specs.Values.{Value, Split, is_same, split}
use Rattle.code_specs.specs.Stores.{Store}
use Rattle.code_specs.specs.Signatures.{Signature, is_same_list, is_same_type, signature_of_type, type_of_function, signature_of}
use Rattle.code_specs.specs.Instances.{table_of}
use Rattle.code_specs.specs.Effects.{Effect, Continues, ReadsLocal, WritesLocal, Branches, Returns, Calls, Traps, Stuck, Meaning, typed, on_split, on_one, on_i32, results, after_meaning, plain_effect, meaning_of, branch_if, selection, checked_call, indirect_call, effect_of}
use Rattle.code_specs.specs.Typing.{OperandType, OperandTypes, Context, ◌>>=◌, needs, known, may_be, below, below_all, top_operand, with_operand, with_operands, any_operands, through, never_behind, local_signature, condition_before, index_before, label_types, table_branch, common, select_type, aligned, instr_type}
use Rattle.code_laws.specs.Answers.{IsValue, AreValues}
use Rattle.code_laws.proofs.Tests.{passed, needed, known_is, ok_is, same_is, same_self, both}
use Rattle.code_laws.proofs.Stacks.{is_of-value, value_is, Reached, One, below_is, popped_is, Took, all_is, on_top, Passes, through_is, given}

-- values of these types are on top
pub record Top (ts : List ValType) (vs : List Value) : Type 0 where
  pub parts : Split Value
  pub is : split ts vs ≡ Some parts
  pub are : AreValues ts parts.top

-- a function with this type finds its arguments, and its results are put in their place
pub record Callable (f : FuncType) (e : OperandTypes) (vs : List Value) : Type 0 where
  pub top : Top (reverse f.params) vs
  pub then : (results : List Value) → AreValues (reverse f.results) results → Reached e (results ++ top.parts.below)

abbrev pub GoodEffect : Context → OperandTypes → Effect Value → Type 0
GoodEffect c e (Continues vs s) = Reached e vs
GoodEffect c e (ReadsLocal index vs) =
    (t : ValType) × (slice_get c.locals index ≡ Some t) × ((v : Value) → IsValue t v → Reached e (v ∷ vs))
GoodEffect c e (WritesLocal index v vs) =
    (t : ValType) × (slice_get c.locals index ≡ Some t) × IsValue t v × Reached e vs
GoodEffect c e (Branches label vs) = (ts : List ValType) × (slice_get c.labels label ≡ Some ts) × Top ts vs
GoodEffect c e (Returns vs) = Top c.results vs
GoodEffect c e (Calls index vs) = (f : FuncType) × (type_of_function c.parts index ≡ Some f) × Callable f e vs
GoodEffect c e (Traps kind) = Unit {0}
GoodEffect c e Stuck = ⊥

top_of : (ts : List ValType) (s : OperandTypes) (vs : List Value) → Took ts s vs → Top ts vs
top_of ts s vs k = record { parts = k.parts; is = k.is; are = k.are }

-- operands of these types are found
split_good : (c : Context) (e s : OperandTypes) (ts : List ValType) (vs : List Value) (go : List Value → List Value → Effect Value)
    → (k : Took ts s vs) → GoodEffect c e (go k.parts.top k.parts.below) → GoodEffect c e (on_split (split ts vs) go)
split_good c e s ts vs go k g = subst (λ o. GoodEffect c e (on_split o go)) (sym k.is) g

pub split_i32 : (s : OperandTypes) (vs : List Value) (k : One I32 s vs)
    → split (I32 ∷ []) vs ≡ Some (record { top = k.v ∷ []; below = k.rest })
split_i32 s vs k =
    ap (split (I32 ∷ [])) k.is ∙ ap (λ b. cond b (Some (i32_parts k.v k.rest)) None) (is_of-value I32 k.v k.has)
  where
    i32_parts : Value → List Value → Split Value
    i32_parts v rest = record { top = v ∷ []; below = rest }

i32_good : (c : Context) (e s : OperandTypes) (vs : List Value) (go : ℕ → List Value → Effect Value)
    → (k : One I32 s vs) → GoodEffect c e (go k.v.bits k.rest) → GoodEffect c e (on_i32 typed vs go)
i32_good c e s vs go k g =
    subst (λ o. GoodEffect c e (on_split o (λ top below. on_one top (λ v none. go v.bits below)))) (sym (split_i32 s vs k)) g

-- ---- plain instructions

results_are : (ts : List ValType) (n : ℕ) → AreValues ts (results typed ts n)
results_are [] n = tt
results_are (t ∷ ts) n = (value_is t n, results_are ts n)

meaning_good : (c : Context) (g : Signature) (e : OperandTypes) (vs : List Value) (p : Passes g e vs) (m : Meaning)
    → GoodEffect c e (after_meaning typed g.gives p.took.parts.below m)
meaning_good c g e vs p (Ok x) = given g e vs p (results typed g.gives x.number) (results_are g.gives x.number)
meaning_good c g e vs p (Err kind) = tt

plain_good : (c : Context) (i : Instr) (g : Option Signature) (s e : OperandTypes) (vs : List Value) (st : Store)
    → (known g >>= λ g. aligned i >>= λ _. through g s) ≡ Ok e → Reached s vs → GoodEffect c e (plain_effect typed c.parts i g vs st)
plain_good c i None s e vs st is h = cc
plain_good c i (Some g) s e vs st is h =
    let x = passed (aligned i) (λ _. through g s) e is in
    let p = through_is g s e vs x.then h in
    split_good c e p.left g.takes vs _ p.took (meaning_good c g e vs p (meaning_of c.parts i _ st))

-- ---- branches, calls, and the others

chosen_good : (c : Context) (e : OperandTypes) (b : Bool) (x y : Effect Value) → GoodEffect c e x → GoodEffect c e y
    → GoodEffect c e (cond b x y)
chosen_good c e true x y g h = g
chosen_good c e false x y g h = h

never_good : (c : Context) (ts : List ValType) (s e : OperandTypes) (vs : List Value) → never_behind ts s ≡ Ok e → Reached s vs → Top ts vs
never_good c ts s e vs is h =
    let x = passed (below_all ts s) (λ rest. Ok any_operands) e is in
    top_of ts x.it vs (all_is ts s x.it vs x.is h)

-- a condition or an index on top of operands of these types
record Topped (ts : List ValType) (left : OperandTypes) (vs : List Value) : Type 0 where
  middle : OperandTypes
  one : One I32 middle vs
  others : Took ts left one.rest

topped : (ts : List ValType) (s left : OperandTypes) (vs : List Value) → below_all (I32 ∷ ts) s ≡ Ok left → Reached s vs → Topped ts left vs
topped ts s left vs is h =
    let x = passed (below I32 s) (below_all ts) left is in
    let k = below_is I32 s x.it vs x.is h in
    record { middle = x.it; one = k; others = all_is ts x.it left k.rest x.then k.reached }

branch_if_good : (c : Context) (label : ℕ) (ts : List ValType) (s e : OperandTypes) (vs : List Value) (st : Store)
    → slice_get c.labels label ≡ Some ts → through (condition_before ts) s ≡ Ok e → Reached s vs
    → GoodEffect c e (on_i32 typed vs (λ condition below. branch_if condition label below st))
branch_if_good c label ts s e vs st there is h =
    let x = passed (below_all (I32 ∷ ts) s) (λ rest. Ok (with_operands ts rest)) e is in
    let t = topped ts s x.it vs x.is h in
    let k = t.one in
    let a = t.others in
    let same = subst (λ l. Reached e l) (sym a.whole) (subst (λ e. Reached e (a.parts.top ++ a.parts.below))
    (ok_is (with_operands ts x.it) e x.then) (on_top ts x.it a.parts.top a.parts.below a.are a.reached)) in
    i32_good c e t.middle vs (λ condition below. branch_if condition label below st) k
    (chosen_good c e (k.v.bits == 0) (Continues k.rest st) (Branches label k.rest) same (ts, there, top_of ts x.it k.rest a))

same_list_is : (ts us : List ValType) → is_same_list ts us ≡ true → ts ≡ us
same_list_is [] [] h = refl
same_list_is [] (u ∷ us) h = cc
same_list_is (t ∷ ts) [] h = cc
same_list_is (t ∷ ts) (u ∷ us) h =
    let x = both (is_same t u) (is_same_list ts us) h in
    ap (λ t. t ∷ ts) (same_is t u x.0) ∙ ap (λ ts. u ∷ ts) (same_list_is ts us x.1)

-- whichever label is picked, it carries the same
picked : (c : Context) (labels : List ℕ) (default : ℕ) (ts : List ValType) (others : List (List ValType)) (index : ℕ)
    → label_types c labels ≡ Ok others → list_all (is_same_list ts) others ≡ true → slice_get c.labels default ≡ Some ts
    → slice_get c.labels (slice_index_or labels index default) ≡ Some ts
picked c [] default ts others index is same there = there
picked c (label ∷ labels) default ts others index is same there =
    let x = passed (known (slice_get c.labels label)) (λ us. label_types c labels >>= λ others. Ok (us ∷ others)) others is in
    let y = passed (label_types c labels) (λ others. Ok (x.it ∷ others)) others x.then in
    let w = both (is_same_list ts x.it) (list_all (is_same_list ts) y.it)
    (subst (λ l. list_all (is_same_list ts) l ≡ true) (sym (ok_is (x.it ∷ y.it) others y.then)) same) in
    by_index index (known_is (slice_get c.labels label) x.it x.is ∙ ap Some (sym (same_list_is ts x.it w.0)))
    (λ i. picked c labels default ts y.it i y.is w.1 there)
  where
    by_index : (index : ℕ) → slice_get c.labels label ≡ Some ts → ((i : ℕ) → slice_get c.labels (slice_index_or labels i default) ≡ Some ts)
        → slice_get c.labels (slice_index_or (label ∷ labels) index default) ≡ Some ts
    by_index zero first rest = first
    by_index (suc i) first rest = rest i

table_good : (c : Context) (labels : List ℕ) (default : ℕ) (s e : OperandTypes) (vs : List Value)
    → table_branch c labels default s ≡ Ok e → Reached s vs
    → GoodEffect c e (on_i32 typed vs (λ index below. Branches (slice_index_or labels index default) below))
table_good c labels default s e vs is h =
    let x = passed (label_types c labels) _ e is in
    let y = passed (known (slice_get c.labels default)) _ e x.then in
    let z = passed (below I32 s) _ e y.then in
    let w = passed (needs (list_all (is_same_list y.it) x.it) Operand) _ e z.then in
    let k = below_is I32 s z.it vs z.is h in
    i32_good c e z.it vs (λ index below. Branches (slice_index_or labels index default) below) k (
      y.it,
      picked c labels default y.it x.it k.v.bits x.is (needed (list_all (is_same_list y.it) x.it) Operand w.it w.is)
          (known_is (slice_get c.labels default) y.it y.is),
      never_good c y.it z.it e k.rest w.then k.reached,
    )

callable : (f : FuncType) (s e : OperandTypes) (vs : List Value) → through (signature_of_type f) s ≡ Ok e → Reached s vs → Callable f e vs
unfolding top_of
callable f s e vs is h =
    let p = through_is (signature_of_type f) s e vs is h in
    record { top = top_of (reverse f.params) p.left vs p.took; then = λ results are. given (signature_of_type f) e vs p results are }

-- every function in the table has a type
abbrev pub HasTable : NestedModule → Type 0
HasTable m = (at index : ℕ) → slice_get (table_of m) at ≡ Some (Some index) → (f : FuncType) × (type_of_function m index ≡ Some f)

pub type_is : (f g : FuncType) → is_same_type f g ≡ true → f ≡ g
type_is f g h =
    let x = both (is_same_list f.params g.params) (is_same_list f.results g.results) h in
    ap (with_params f.results) (same_list_is f.params g.params x.0) ∙ ap (with_results g.params) (same_list_is f.results g.results x.1)
  where
    with_params : List ValType → List ValType → FuncType
    with_params results params = record { params = params; results = results }

    with_results : List ValType → List ValType → FuncType
    with_results params results = record { params = params; results = results }

checked_good : (c : Context) (index : ℕ) (f g : FuncType) (e : OperandTypes) (vs : List Value) (b : Bool)
    → is_same_type f g ≡ b → type_of_function c.parts index ≡ Some g → Callable f e vs
    → GoodEffect c e (cond b (Calls index vs) (Traps trap.Signature))
checked_good c index f g e vs true same is k = (f, is ∙ ap Some (sym (type_is f g same)), k)
checked_good c index f g e vs false same is k = tt

indirect_good : (c : Context) → HasTable c.parts → (ty : ℕ) (at : ℕ) (entry : Option (Option ℕ)) (f : FuncType) (e : OperandTypes)
    (vs : List Value)
    → slice_get (table_of c.parts) at ≡ entry → slice_get c.parts.types ty ≡ Some f → Callable f e vs
    → GoodEffect c e (indirect_call c.parts ty entry vs)
indirect_good c known_table ty at None f e vs is there k = tt
indirect_good c known_table ty at (Some None) f e vs is there k = tt
indirect_good c known_table ty at (Some (Some index)) f e vs is there k =
    let x = known_table at index is in
    subst (λ o. GoodEffect c e (checked_call index o (type_of_function c.parts index) vs)) (sym there)
    (subst (λ o. GoodEffect c e (checked_call index (Some f) o vs)) (sym x.1)
    (checked_good c index f x.0 e vs (is_same_type f x.0) refl x.1 k))

call_indirect_good : (c : Context) → HasTable c.parts → (ty : ℕ) (f : FuncType) (s e : OperandTypes) (vs : List Value)
    → slice_get c.parts.types ty ≡ Some f → through (index_before (signature_of_type f)) s ≡ Ok e → Reached s vs
    → GoodEffect c e (on_i32 typed vs (λ index below. indirect_call c.parts ty (slice_get (table_of c.parts) index) below))
call_indirect_good c known_table ty f s e vs there is h =
    let x = passed (below_all (I32 ∷ reverse f.params) s) (λ rest. Ok (with_operands (reverse f.results) rest)) e is in
    let y = passed (below I32 s) (below_all (reverse f.params)) x.it x.is in
    let k = below_is I32 s y.it vs y.is h in
    let rest_is = subst (λ o. (o >>= λ rest. Ok (with_operands (reverse f.results) rest)) ≡ Ok e) (sym y.then) x.then in
    i32_good c e y.it vs (λ index below. indirect_call c.parts ty (slice_get (table_of c.parts) index) below) k
    (indirect_good c known_table ty k.v.bits (slice_get (table_of c.parts) k.v.bits) f e k.rest refl there
    (callable f y.it e k.rest rest_is k.reached))

drop_good : (c : Context) (s e : OperandTypes) (vs : List Value) (st : Store)
    → (top_operand s >>= λ p. Ok p.rest) ≡ Ok e → Reached s vs → GoodEffect c e (on_one vs (λ v below. Continues below st))
drop_good c s e vs st is h =
    let x = passed (top_operand s) (λ p. Ok p.rest) e is in
    let k = popped_is s x.it vs x.is h in
    subst (λ (l : List Value). GoodEffect c e (on_one l (λ v below. Continues below st))) (sym k.is)
    (subst (λ e. Reached e k.rest) (ok_is x.it.rest e x.then) k.reached)

-- two operands of one type
common_is : (a b : ValType) (t : OperandType) → common (Some a) (Some b) ≡ Ok t → (a ≡ b) × (Some a ≡ t)
common_is a b t is =
    let x = passed (needs (may_be a (Some b)) Operand) (λ _. Ok (Some a)) t is in
    (same_is a b (needed (may_be a (Some b)) Operand x.it x.is), ok_is (Some a) t x.then)

picked_value : (t : ValType) (b : Bool) (v w : Value) → IsValue t v → IsValue t w → IsValue t (cond b v w)
picked_value t true v w g h = g
picked_value t false v w g h = h

selected : (c : Context) (e rest : OperandTypes) (t : ValType) (n : ℕ) (upper lower : Value) (below : List Value) (st : Store)
    → with_operand (Some t) rest ≡ e → IsValue t upper → IsValue t lower → Reached rest below
    → GoodEffect c e (selection typed n (upper ∷ lower ∷ below) st)
selected c e rest t n upper lower below st is g h r =
    subst (λ b. GoodEffect c e (cond b (Continues (cond (n == 0) upper lower ∷ below) st) Stuck)) (sym alike)
    (subst (λ e. Reached e (cond (n == 0) upper lower ∷ below)) is
    (on_top (t ∷ []) rest (cond (n == 0) upper lower ∷ []) below (picked_value t (n == 0) upper lower g h, tt) r))
  where
    alike : is_same lower.ty upper.ty ≡ true
    alike = ap (λ u. is_same u upper.ty) h.ty ∙ ap (is_same t) g.ty ∙ same_self t

select_good : (c : Context) (s e : OperandTypes) (vs : List Value) (st : Store)
    → select_type s ≡ Ok e → Reached s vs → GoodEffect c e (on_i32 typed vs (λ condition below. selection typed condition below st))
select_good c s e vs st is h =
    let x = passed (below I32 s) _ e is in
    let k = below_is I32 s x.it vs x.is h in
    let y = passed (top_operand x.it) _ e x.then in
    let u = popped_is x.it y.it k.rest y.is k.reached in
    let z = passed (top_operand y.it.rest) _ e y.then in
    let l = popped_is y.it.rest z.it u.rest z.is u.reached in
    let w = passed (common y.it.ty z.it.ty) _ e z.then in
    let both_types = common_is u.ty l.ty w.it (subst (λ o. common (Some u.ty) o ≡ Ok w.it) l.known
    (subst (λ o. common o z.it.ty ≡ Ok w.it) u.known w.is)) in
    let last = ap (λ t. with_operand t z.it.rest) both_types.1 ∙ ok_is (with_operand w.it z.it.rest) e w.then in
    i32_good c e x.it vs (λ condition below. selection typed condition below st) k
    (subst (λ (vs : List Value). GoodEffect c e (selection typed k.v.bits vs st)) (sym (u.is ∙ ap (λ (vs : List Value). u.v ∷ vs) l.is))
    (selected c e z.it.rest u.ty k.v.bits u.v l.v l.rest st last u.has (subst (λ t. IsValue t l.v) (sym both_types.0) l.has) l.reached))

-- ---- locals

abbrev sig : List ValType → List ValType → Signature
sig takes gives = record { takes = takes; gives = gives }

single : (t : ValType) (s left : OperandTypes) (vs : List Value) → below_all (t ∷ []) s ≡ Ok left → Reached s vs → One t left vs
single t s left vs is h =
    let x = passed (below t s) (below_all []) left is in
    below_is t s left vs (x.is ∙ x.then) h

get_good : (c : Context) (index : ℕ) (t : ValType) (s e : OperandTypes) (vs : List Value)
    → slice_get c.locals index ≡ Some t → through (sig [] (t ∷ [])) s ≡ Ok e → Reached s vs → GoodEffect c e (ReadsLocal index vs)
get_good c index t s e vs there is h =
    (t, there, λ v hv. subst (λ e. Reached e (v ∷ vs)) (ok_is (with_operand (Some t) s) e is) (on_top (t ∷ []) s (v ∷ []) vs (hv, tt) h))

set_good : (c : Context) (index : ℕ) (t : ValType) (s e : OperandTypes) (vs : List Value)
    → slice_get c.locals index ≡ Some t → through (sig (t ∷ []) []) s ≡ Ok e → Reached s vs
    → GoodEffect c e (on_one vs (λ v below. WritesLocal index v below))
set_good c index t s e vs there is h =
    let x = passed (below_all (t ∷ []) s) (λ rest. Ok rest) e is in
    let k = single t s x.it vs x.is h in
    subst (λ (l : List Value). GoodEffect c e (on_one l (λ v below. WritesLocal index v below))) (sym k.is)
    (t, there, k.has, subst (λ e. Reached e k.rest) (ok_is x.it e x.then) k.reached)

tee_good : (c : Context) (index : ℕ) (t : ValType) (s e : OperandTypes) (vs : List Value)
    → slice_get c.locals index ≡ Some t → through (sig (t ∷ []) (t ∷ [])) s ≡ Ok e → Reached s vs
    → GoodEffect c e (on_one vs (λ v below. WritesLocal index v vs))
tee_good c index t s e vs there is h =
    let x = passed (below_all (t ∷ []) s) (λ rest. Ok (with_operand (Some t) rest)) e is in
    let k = single t s x.it vs x.is h in
    let again = subst (λ e. Reached e (k.v ∷ k.rest)) (ok_is (with_operand (Some t) x.it) e x.then)
    (on_top (t ∷ []) x.it (k.v ∷ []) k.rest (k.has, tt) k.reached) in
    subst (λ (l : List Value). GoodEffect c e (on_one l (λ v below. WritesLocal index v vs))) (sym k.is)
    (t, there, k.has, subst (λ (l : List Value). Reached e l) (sym k.is) again)

local_good : (c : Context) (get set : Bool) (index : ℕ) (t : ValType) (s e : OperandTypes) (vs : List Value)
    → slice_get c.locals index ≡ Some t
    → through (cond get (sig [] (t ∷ [])) (cond set (sig (t ∷ []) []) (sig (t ∷ []) (t ∷ [])))) s ≡ Ok e → Reached s vs
    → GoodEffect c e (cond get (ReadsLocal index vs) (cond set (on_one vs (λ v below. WritesLocal index v below))
    (on_one vs (λ v below. WritesLocal index v vs))))
local_good c true set index t s e vs there is h = get_good c index t s e vs there is h
local_good c false true index t s e vs there is h = set_good c index t s e vs there is h
local_good c false false index t s e vs there is h = tee_good c index t s e vs there is h

-- ---- every instruction

pub instr_good : (c : Context) → HasTable c.parts → (i : Instr) (s e : OperandTypes) (vs : List Value) (st : Store)
    → instr_type c i s ≡ Ok e → Reached s vs → GoodEffect c e (effect_of typed c.parts i vs st)
unfolding instr_type effect_of
instr_good c table Unreachable s e vs st is h = tt
instr_good c table (Br label) s e vs st is h =
    let x = passed (known (slice_get c.labels label)) (λ ts. never_behind ts s) e is in
    (x.it, known_is (slice_get c.labels label) x.it x.is, never_good c x.it s e vs x.then h)
instr_good c table (BrIf label) s e vs st is h =
    let x = passed (known (slice_get c.labels label)) (λ ts. through (condition_before ts) s) e is in
    branch_if_good c label x.it s e vs st (known_is (slice_get c.labels label) x.it x.is) x.then h
instr_good c table (BrTable labels default) s e vs st is h = table_good c labels default s e vs is h
instr_good c table Return s e vs st is h = never_good c c.results s e vs is h
instr_good c table (Call index) s e vs st is h =
    let x = passed (known (type_of_function c.parts index)) (λ f. through (signature_of_type f) s) e is in
    (x.it, known_is (type_of_function c.parts index) x.it x.is, callable x.it s e vs x.then h)
instr_good c table (CallIndirect ty) s e vs st is h =
    let x = passed (known (slice_get c.parts.tables 0)) _ e is in
    let y = passed (known (slice_get c.parts.types ty)) _ e x.then in
    call_indirect_good c table ty y.it s e vs (known_is (slice_get c.parts.types ty) y.it y.is) y.then h
instr_good c table Drop s e vs st is h = drop_good c s e vs st is h
instr_good c table Select s e vs st is h = select_good c s e vs st is h
instr_good c table (Local op index) s e vs st is h =
    let x = passed (known (slice_get c.locals index)) (λ t. through (local_signature op t) s) e is in
    local_good c (op == 0x20) (op == 0x21) index x.it s e vs (known_is (slice_get c.locals index) x.it x.is) x.then h
instr_good c table i s e vs st is h = plain_good c i (signature_of c.parts i) s e vs st is h
