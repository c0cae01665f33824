-- Calls of a valid module are never stuck, and return values of their types.
use Rattle.std.proofs.Common.{◌≡◌, ℕ, zero, suc, ◌+◌, ◌≤◌, List, [], ◌∷◌, ◌++◌, length, Option, Some, None, refl, sym, ap, ◌∙◌, subst, Bool, arith}
use Rattle.std.specs.Prelude.{Ok, cond, map, reverse, slice_get, option_map, ◌-◌}
use Rattle.std.proofs.lemmas.List.{reverse-reverse}
use Rattle.wasm_types.specs.declared.instr.ValType.{ValType}
use Rattle.wasm_types.specs.declared.module.FuncType.{FuncType}
use Rattle.wasm_types.specs.Modules.{NestedModule}
use Rattle.code_specs.specs.Values.{Value, Split, with_top, zero_of, split, most_slots}
use Rattle.code_specs.specs.Stores.{Store}
use Rattle.code_specs.specs.Signatures.{Function, function_at, type_of_function}
use Rattle.code_specs.specs.Execution.{Answer, Returned, Trapped, Spent, Stuck, Outcome, Next, Branch, Return, Over, Invoke, Continuation, most_frames, on_found, exec, answer_with, answer_after, function_answer, after_call, invoke, arguments_of, answer_of_function, answer_of}
use Rattle.code_specs.specs.Typing.{OperandTypes, Left, Context, at, no_operands, with_operands, exact, closing, with_room, type_of, context_of, type_of_func}
use Rattle.code_specs.specs.Validity.{IsValid}
use Rattle.code_laws.specs.Codes.{HasItsLabels}
use Rattle.code_laws.specs.Answers.{AreValues, Fit, AnswersWith}
use Rattle.code_laws.proofs.Tests.{passed, at_passed, some_is, room_is}
use Rattle.code_laws.proofs.Stacks.{is_of-value, zeros_are, are_length, are_append, are_reverse, exact_is}
use Rattle.code_laws.proofs.Effected.{Top, HasTable}
use Rattle.code_laws.proofs.Labels.{code_labels}
use Rattle.code_laws.proofs.Runs.{Good, GoodCalls, sound}
use Rattle.code_laws.proofs.Parts.{Parts, parts_of, table_is, functions_typed}

all_split : (ts : List ValType) (vs : List Value) → AreValues ts vs → split ts vs ≡ Some (record { top = vs; below = [] })
all_split [] [] h = refl
all_split [] (v ∷ vs) h = absurd h
all_split (t ∷ ts) [] h = absurd h
all_split (t ∷ ts) (v ∷ vs) h =
    ap (λ b. taking b) (is_of-value t v h.0) ∙ ap (with_top v) (all_split ts vs h.1)
  where
    taking : Bool → Option (Split Value)
    taking b = cond b (with_top v (split ts vs)) None

whole_top : (ts : List ValType) (vs : List Value) → AreValues ts vs → Top ts vs
whole_top ts vs h = record { parts = record { top = vs; below = [] }; is = all_split ts vs h; are = h }

answered : (ts : List ValType) (vs : List Value) (st : Store) (f : ℕ) → Top ts vs → AnswersWith ts (answer_with (split ts vs) st f)
answered ts vs st f t = subst (λ o. AnswersWith ts (answer_with o st f)) (sym t.is) t.are

-- a body ends
body_good : (c : Context) (ts : List ValType) (e : OperandTypes) (o : Outcome) → c.labels ≡ ts ∷ [] → c.results ≡ ts → exact ts e ≡ Ok tt
    → Good c e o → AnswersWith ts (answer_after ts o)
body_good c ts e (Next l vs st f) ls rs x g = answered ts vs st f (whole_top ts vs (exact_is ts e tt vs x g.0))
body_good c ts e (Branch zero l vs st f) ls rs x g =
    let first : slice_get c.labels 0 ≡ Some ts = ap (λ (ls : List (List ValType)). slice_get ls 0) ls in
    answered ts vs st f (subst (λ us. Top us vs) (some_is g.0 ts (sym g.1 ∙ first)) g.2)
body_good c ts e (Branch (suc label) l vs st f) ls rs x g =
    let none : slice_get c.labels (suc label) ≡ None = ap (λ (ls : List (List ValType)). slice_get ls (suc label)) ls in
    absurd (let wrong : None ≡ Some g.0 = sym none ∙ g.1 in cc)
body_good c ts e (Return vs st f) ls rs x g = answered ts vs st f (subst (λ us. Top us vs) rs g)
body_good c ts e (Over (Returned vs st f)) ls rs x g = absurd g
body_good c ts e (Over (Trapped kind st f)) ls rs x g = tt
body_good c ts e (Over (Spent st)) ls rs x g = tt
body_good c ts e (Over Stuck) ls rs x g = absurd g

-- a typed body: room for its locals, and what it leaves
record Body (m : NestedModule) (f : Function) : Type 0 where
  left : Left
  is : type_of (context_of m f) (length (f.ty.params ++ f.locals)) 0 f.code no_operands ≡ Ok left
  whole : exact (reverse f.ty.results) left.types ≡ Ok tt
  room : length (f.ty.params ++ f.locals) + 0 ≤ most_slots

body_is : (m : NestedModule) (f : Function) (s : OperandTypes) → type_of_func m f ≡ Ok s → Body m f
unfolding type_of_func
body_is m f s is =
    let ts = reverse f.ty.results in
    let n = length (f.ty.params ++ f.locals) in
    let x = passed (type_of (context_of m f) n 0 f.code no_operands) _ s is in
    let y = passed (exact ts x.it.types) (λ _. with_room n (with_operands ts no_operands)) s (at_passed x.it.closer (closing n ts x.it.types no_operands) s x.then) in
    let z = room_is n (with_operands ts no_operands) s y.then in
    record { left = x.it; is = x.is; whole = y.is; room = omega (arith, z.0) }

function_good : (m : NestedModule) → HasTable m → (call : Invoke) → GoodCalls m call → (f : Function) → Body m f → (arguments : List Value) (st : Store) (fuel : ℕ)
    → AreValues (reverse f.ty.params) arguments → AnswersWith (reverse f.ty.results) (function_answer m call f arguments st fuel)
function_good m ht call gc f b arguments st fuel are =
    let c = context_of m f in
    let l = reverse arguments ++ map zero_of f.locals in
    let params : AreValues f.ty.params (reverse arguments)
    = subst (λ ts. AreValues ts (reverse arguments)) (reverse-reverse f.ty.params) (are_reverse (reverse f.ty.params) arguments are) in
    let locals : AreValues (f.ty.params ++ f.locals) l = are_append f.ty.params f.locals (reverse arguments) (map zero_of f.locals) params (zeros_are f.locals) in
    let n = are_length (f.ty.params ++ f.locals) l locals in
    let g = sound call f.code c ht gc (length (f.ty.params ++ f.locals)) 0 no_operands b.left b.room b.is l [] st fuel tt locals in
    body_good c (reverse f.ty.results) b.left.types (exec m call (length l) f.code l [] st fuel) refl refl b.whole
    (subst (λ k. Good c b.left.types (exec m call k f.code l [] st fuel)) (sym n) g)

after_call_good : (c : Context) (e : OperandTypes) (ts : List ValType) (below : List Value) (next : Continuation) (a : Answer Value)
    → ((results : List Value) (st : Store) (fuel : ℕ) → AreValues ts results → Good c e (next (results ++ below) st fuel))
    → AnswersWith ts a → Good c e (after_call below next a)
after_call_good c e ts below next (Returned vs st f) g h = g vs st f h
after_call_good c e ts below next (Trapped kind st f) g h = tt
after_call_good c e ts below next (Spent st) g h = tt
after_call_good c e ts below next Stuck g h = absurd h

-- a function of a known type is there
function_of_type : (m : NestedModule) (index : ℕ) (t : FuncType) → type_of_function m index ≡ Some t → (f : Function) × (function_at m index ≡ Some f) × (f.ty ≡ t)
function_of_type m index t is = by_function (function_at m index) refl is
  where
    by_function : (o : Option Function) → function_at m index ≡ o → option_map (λ (f : Function). f.ty) o ≡ Some t → (f : Function) × (function_at m index ≡ Some f) × (f.ty ≡ t)
    by_function None at e = cc
    by_function (Some f) at e = (f, at, some_is f.ty t e)

pub calls_good : (m : NestedModule) → Parts m → (frames : ℕ) → GoodCalls m (invoke m frames)
unfolding invoke
calls_good m p zero = record { by = λ c e index t vs st fuel next is top g. tt }
calls_good m p (suc frames) = record {
  by = λ c e index t vs st fuel next is top g.
      let x = function_of_type m index t is in
      let f = x.0 in
      let typed_body = functions_typed m p index f x.1 in
      let b = body_is m f typed_body.0 typed_body.1 in
      let top' : Top (reverse f.ty.params) vs = subst (λ (t : FuncType). Top (reverse t.params) vs) (sym x.2) top in
      let arguments_is : split (reverse f.ty.params) vs ≡ Some top.parts = ap (λ (t : FuncType). split (reverse t.params) vs) x.2 ∙ top.is in
      let are : AreValues (reverse f.ty.params) top.parts.top = subst (λ (t : FuncType). AreValues (reverse t.params) top.parts.top) (sym x.2) top.are in
      let g' : (results : List Value) (st : Store) (fuel : ℕ) → AreValues (reverse f.ty.results) results → Good c e (next (results ++ top.parts.below) st fuel)
      = subst (λ (t : FuncType). (results : List Value) (st : Store) (fuel : ℕ) → AreValues (reverse t.results) results → Good c e (next (results ++ top.parts.below) st fuel)) (sym x.2) g in
      subst (λ o. Good c e (on_found o (λ (f : Function). on_found (split (reverse f.ty.params) vs) (λ (arguments : Split Value). after_call arguments.below next (function_answer m (invoke m frames) f arguments.top st fuel))))) (sym x.1)
      (subst (λ o. Good c e (on_found o (λ (arguments : Split Value). after_call arguments.below next (function_answer m (invoke m frames) f arguments.top st fuel)))) (sym arguments_is)
      (after_call_good c e (reverse f.ty.results) top.parts.below next (function_answer m (invoke m frames) f top.parts.top st fuel) g'
      (function_good m (table_is m p) (invoke m frames) (calls_good m p frames) f b top.parts.top st fuel are)));
}

arguments_are : (ts : List ValType) (ns : List ℕ) → Fit ts ns → AreValues ts (arguments_of ts ns)
arguments_are [] [] h = tt
arguments_are [] (n ∷ ns) h = absurd h
arguments_are (t ∷ ts) [] h = absurd h
arguments_are (t ∷ ts) (n ∷ ns) h = (record { ty = refl; fits = h.0 }, arguments_are ts ns h.1)

pub answers : (m : NestedModule) → IsValid m → (index : ℕ) (f : Function) (arguments : List ℕ) (st : Store) (fuel : ℕ)
    → function_at m index ≡ Some f → Fit f.ty.params arguments → AnswersWith (reverse f.ty.results) (answer_of m index arguments st fuel)
unfolding answer_of
answers m valid index f arguments st fuel is fit =
    let p = parts_of m valid in
    let typed_body = functions_typed m p index f is in
    let b = body_is m f typed_body.0 typed_body.1 in
    subst (λ o. AnswersWith (reverse f.ty.results) (answer_of_function m o arguments st fuel)) (sym is)
    (function_good m (table_is m p) (invoke m (most_frames - 1)) (calls_good m p (most_frames - 1)) f b (reverse (arguments_of f.ty.params arguments)) st fuel
    (are_reverse f.ty.params (arguments_of f.ty.params arguments) (arguments_are f.ty.params arguments fit)))

not_stuck : (ts : List ValType) (a : Answer Value) → AnswersWith ts a → a ≡ Stuck → ⊥
not_stuck ts a h is = subst (AnswersWith ts) is h

pub never_stuck : (m : NestedModule) → IsValid m → (index : ℕ) (f : Function) (arguments : List ℕ) (st : Store) (fuel : ℕ)
    → function_at m index ≡ Some f → Fit f.ty.params arguments → answer_of m index arguments st fuel ≡ Stuck → ⊥
never_stuck m valid index f arguments st fuel is fit =
    not_stuck (reverse f.ty.results) (answer_of m index arguments st fuel) (answers m valid index f arguments st fuel is fit)

-- what a typed body leaves
pub body_leaves : (m : NestedModule) (f : Function) (s : OperandTypes) → type_of_func m f ≡ Ok s → with_operands (reverse f.ty.results) no_operands ≡ s
unfolding type_of_func
body_leaves m f s is =
    let ts = reverse f.ty.results in
    let n = length (f.ty.params ++ f.locals) in
    let x = passed (type_of (context_of m f) n 0 f.code no_operands) _ s is in
    let y = passed (exact ts x.it.types) (λ _. with_room n (with_operands ts no_operands)) s (at_passed x.it.closer (closing n ts x.it.types no_operands) s x.then) in
    (room_is n (with_operands ts no_operands) s y.then).1

pub body_labels : (m : NestedModule) (f : Function) (s : OperandTypes) → type_of_func m f ≡ Ok s → HasItsLabels 1 f.code
unfolding type_of_func
body_labels m f s is =
    let n = length (f.ty.params ++ f.locals) in
    let x = passed (type_of (context_of m f) n 0 f.code no_operands) _ s is in
    code_labels (context_of m f) n 0 f.code no_operands x.it x.is

-- where the end of a typed body is come to, exactly its results are there
pub end_has_results : (m : NestedModule) → IsValid m → (index : ℕ) (f : Function) → function_at m index ≡ Some f
    → (frames : ℕ) (l : List Value) (st : Store) (fuel : ℕ) → AreValues (f.ty.params ++ f.locals) l
    → (l' vs : List Value) (st' : Store) (fuel' : ℕ) → exec m (invoke m frames) (length l) f.code l [] st fuel ≡ Next l' vs st' fuel'
    → AreValues (reverse f.ty.results) vs
end_has_results m valid index f is frames l st fuel are l' vs st' fuel' next =
    let p = parts_of m valid in
    let typed_body = functions_typed m p index f is in
    let b = body_is m f typed_body.0 typed_body.1 in
    let c = context_of m f in
    let n = are_length (f.ty.params ++ f.locals) l are in
    let g = sound (invoke m frames) f.code c (table_is m p) (calls_good m p frames) (length (f.ty.params ++ f.locals)) 0 no_operands b.left b.room b.is l [] st fuel tt are in
    let g' : Good c b.left.types (Next l' vs st' fuel') = subst (Good c b.left.types) next (subst (λ k. Good c b.left.types (exec m (invoke m frames) k f.code l [] st fuel)) (sym n) g) in
    exact_is (reverse f.ty.results) b.left.types tt vs b.whole g'.0
