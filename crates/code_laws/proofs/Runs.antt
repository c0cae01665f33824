-- Typed lists of instructions are never stuck, and leave what their type says.
use Rattle.std.proofs.Common.{◌≡◌, ℕ, zero, suc, ◌+◌, ◌≤◌, List, [], ◌∷◌, ◌++◌, length, Some, refl, sym, ap, ◌∙◌, subst, Bool, true, false}
use Rattle.std.specs.Prelude.{Ok, cond, reverse, slice_get, slice_set, ◌==◌}
use Rattle.std.proofs.lemmas.Bool.{le-ltb}
use Rattle.wasm_types.specs.declared.instr.ValType.{ValType}
use Rattle.wasm_types.specs.declared.instr.ValType.TheVariants.{I32}
use Rattle.wasm_types.specs.declared.module.FuncType.{FuncType}
use Rattle.wasm_types.specs.Nested.{Code, Nil, Leaf, InBlock, InLoop, IfOnly, IfElse}
use Rattle.wasm_types.specs.Modules.{NestedModule}
use Rattle.code_specs.specs.Values.{Value, Split, is_same, most_slots}
use Rattle.code_specs.specs.Stores.{Store}
use Rattle.code_specs.specs.Signatures.{types_of, type_of_function}
use Rattle.code_specs.specs.Effects.{Effect, Continues, ReadsLocal, WritesLocal, Branches, Returns, Calls, Traps, typed, effect_of}
use Rattle.code_specs.specs.Effects as effect
use Rattle.code_specs.specs.Execution.{Returned, Trapped, Spent, Stuck, Outcome, Next, Branch, Return, Over, Run, Continuation, Invoke, on_found, paying, within, after_effect, after_block, after_iteration, iterations, loop_outcome, choice, exec}
use Rattle.code_specs.specs.Typing.{OperandTypes, Left, Context, ◌>>=◌, at, height, below, with_operands, no_operands, instr_type, with_room, opening, exact, closing, with_label, type_of}
use Rattle.code_laws.specs.Answers.{IsValue, AreValues}
use Rattle.code_laws.proofs.Tests.{passed, at_passed, some_is, ok_is, same_self, room_is}
use Rattle.code_laws.proofs.Stacks.{Reached, reached_length, One, below_is, on_top, exact_is}
use Rattle.code_laws.proofs.Effected.{Top, GoodEffect, HasTable, instr_good, split_i32}

-- what an outcome of typed code may be: at the end the types that are left, at a branch those of its label
abbrev pub Good : Context → OperandTypes → Outcome → Type 0
Good c e (Next l vs s f) = Reached e vs × AreValues c.locals l
Good c e (Branch label l vs s f) = (ts : List ValType) × (slice_get c.labels label ≡ Some ts) × Top ts vs × AreValues c.locals l
Good c e (Return vs s f) = Top c.results vs
Good c e (Over (Returned vs s f)) = ⊥
Good c e (Over (Trapped kind s f)) = Unit {0}
Good c e (Over (Spent s)) = Unit {0}
Good c e (Over Stuck) = ⊥

abbrev pub GoodRun : Context → OperandTypes → OperandTypes → Run → Type 0
GoodRun c s e run = (l vs : List Value) (st : Store) (f : ℕ) → Reached s vs → AreValues c.locals l → Good c e (run l vs st f)

-- calls of the module's functions are good
pub record GoodCalls (m : NestedModule) (call : Invoke) : Type 0 where
  pub by : (c : Context) (e : OperandTypes) (index : ℕ) (f : FuncType) (vs : List Value) (st : Store) (fuel : ℕ) (next : Continuation)
      → type_of_function m index ≡ Some f → (t : Top (reverse f.params) vs)
      → ((results : List Value) (st : Store) (fuel : ℕ) → AreValues (reverse f.results) results → Good c e (next (results ++ t.parts.below) st fuel))
      → Good c e (call index vs st fuel next)

-- ---- blocks and loops

after_good : (c : Context) (e d : OperandTypes) (ts : List ValType) (s : OperandTypes) (before : List Value) (next : Run) (o : Outcome) (u : Unit {0})
    → exact ts e ≡ Ok u → Reached s before → GoodRun c (with_operands ts s) d next → Good (with_label ts c) e o → Good c d (after_block ts before next o)
after_good c e d ts s before next (Next l vs st f) u x h g k = g l (vs ++ before) st f (on_top ts s vs before (exact_is ts e u vs x k.0) h) k.1
after_good c e d ts s before next (Branch zero l vs st f) u x h g k =
    let t = subst (λ us. Top us vs) (sym (some_is ts k.0 k.1)) k.2 in
    subst (λ o. Good c d (on_found o (λ (p : Split Value). next l (p.top ++ before) st f))) (sym t.is) (g l (t.parts.top ++ before) st f (on_top ts s t.parts.top before t.are h) k.3)
after_good c e d ts s before next (Branch (suc label) l vs st f) u x h g k = k
after_good c e d ts s before next (Return vs st f) u x h g k = k
after_good c e d ts s before next (Over (Returned vs st f)) u x h g k = absurd k
after_good c e d ts s before next (Over (Trapped kind st f)) u x h g k = tt
after_good c e d ts s before next (Over (Spent st)) u x h g k = tt
after_good c e d ts s before next (Over Stuck) u x h g k = absurd k

-- the outcome of a loop, where no branch to its label is left
abbrev GoodLoop : Context → OperandTypes → Outcome → Type 0
GoodLoop c e (Branch zero l vs st f) = ⊥
GoodLoop c e (Branch (suc label) l vs st f) = Good c e (Branch label l vs st f)
GoodLoop c e (Next l vs st f) = Good c e (Next l vs st f)
GoodLoop c e (Return vs st f) = Good c e (Return vs st f)
GoodLoop c e (Over a) = Good c e (Over a)

iteration_good : (c : Context) (e : OperandTypes) (next : List Value → Store → ℕ → Outcome) (o : Outcome)
    → ((l : List Value) (st : Store) (f : ℕ) → AreValues c.locals l → GoodLoop c e (next l st f))
    → Good (with_label [] c) e o → GoodLoop c e (after_iteration next o)
iteration_good c e next (Next l vs st f) g k = k
iteration_good c e next (Branch zero l vs st f) g k = g l st f k.3
iteration_good c e next (Branch (suc label) l vs st f) g k = k
iteration_good c e next (Return vs st f) g k = k
iteration_good c e next (Over (Returned vs st f)) g k = k
iteration_good c e next (Over (Trapped kind st f)) g k = k
iteration_good c e next (Over (Spent st)) g k = k
iteration_good c e next (Over Stuck) g k = k

iterations_good : (n : ℕ) (c : Context) (e : OperandTypes) (body : Run) → GoodRun (with_label [] c) no_operands e body
    → (l : List Value) (st : Store) (f : ℕ) → AreValues c.locals l → GoodLoop c e (iterations n body l st f)
iterations_good zero c e body g l st f k = tt
iterations_good (suc n) c e body g l st f k =
    iteration_good c e (iterations n body) (body l [] st f) (iterations_good n c e body g) (g l [] st f tt k)

after_loop : (c : Context) (e d : OperandTypes) (ts : List ValType) (s : OperandTypes) (before : List Value) (next : Run) (o : Outcome) (u : Unit {0})
    → exact ts e ≡ Ok u → Reached s before → GoodRun c (with_operands ts s) d next → GoodLoop c e o → Good c d (after_block [] before next o)
after_loop c e d ts s before next (Next l vs st f) u x h g k = g l (vs ++ before) st f (on_top ts s vs before (exact_is ts e u vs x k.0) h) k.1
after_loop c e d ts s before next (Branch zero l vs st f) u x h g k = absurd k
after_loop c e d ts s before next (Branch (suc label) l vs st f) u x h g k = k
after_loop c e d ts s before next (Return vs st f) u x h g k = k
after_loop c e d ts s before next (Over (Returned vs st f)) u x h g k = absurd k
after_loop c e d ts s before next (Over (Trapped kind st f)) u x h g k = tt
after_loop c e d ts s before next (Over (Spent st)) u x h g k = tt
after_loop c e d ts s before next (Over Stuck) u x h g k = absurd k

-- ---- the beginning of a list

has_room : (held : ℕ) (vs : List Value) (o : Outcome) → held + length vs ≤ most_slots → within held vs o ≡ o
has_room held vs o le = ap (λ b. cond b (Over Stuck) o) (le-ltb most_slots (held + length vs) le)

roomy : (held : ℕ) (s : OperandTypes) (vs : List Value) → held + height s ≤ most_slots → Reached s vs → held + length vs ≤ most_slots
roomy held s vs le r = subst (λ n. held + n ≤ most_slots) (sym (reached_length s vs r)) le

paying_good : (c : Context) (e : OperandTypes) (st : Store) (f : ℕ) (go : ℕ → Outcome) → ((f : ℕ) → Good c e (go f)) → Good c e (paying st f go)
paying_good c e st zero go g = tt
paying_good c e st (suc f) go g = g f

begin_good : (c : Context) (e : OperandTypes) (held : ℕ) (s : OperandTypes) (vs : List Value) (st : Store) (f : ℕ) (go : ℕ → Outcome)
    → held + height s ≤ most_slots → Reached s vs → ((f : ℕ) → Good c e (go f)) → Good c e (within held vs (paying st f go))
begin_good c e held s vs st f go le r g =
    subst (λ o. Good c e o) (sym (has_room held vs (paying st f go) (roomy held s vs le r))) (paying_good c e st f go g)

-- ---- instructions

local_is : (ts : List ValType) (l : List Value) (i : ℕ) (t : ValType) → AreValues ts l → slice_get ts i ≡ Some t
    → (v : Value) × (slice_get l i ≡ Some v) × IsValue t v
local_is [] [] i t a e = cc
local_is [] (v ∷ l) i t a e = absurd a
local_is (u ∷ ts) [] i t a e = absurd a
local_is (u ∷ ts) (v ∷ l) zero t a e = (v, refl, subst (λ t. IsValue t v) (some_is u t e) a.0)
local_is (u ∷ ts) (v ∷ l) (suc i) t a e = local_is ts l i t a.1 e

set_are : (ts : List ValType) (l : List Value) (i : ℕ) (t : ValType) (x : Value) → AreValues ts l → slice_get ts i ≡ Some t → IsValue t x
    → AreValues ts (slice_set l i x)
set_are [] [] i t x a e h = cc
set_are [] (v ∷ l) i t x a e h = absurd a
set_are (u ∷ ts) [] i t x a e h = absurd a
set_are (u ∷ ts) (v ∷ l) zero t x a e h = (subst (λ t. IsValue t x) (sym (some_is u t e)) h, a.1)
set_are (u ∷ ts) (v ∷ l) (suc i) t x a e h = (a.0, set_are ts l i t x a.1 e h)

alike : (t : ValType) (v w : Value) → IsValue t v → IsValue t w → is_same v.ty w.ty ≡ true
alike t v w g h = ap (λ u. is_same u w.ty) g.ty ∙ ap (is_same t) h.ty ∙ same_self t

effect_good : (call : Invoke) (c : Context) → GoodCalls c.parts call → (s e : OperandTypes) (next : Run) → GoodRun c s e next
    → (d : Effect Value) (l : List Value) (st : Store) (f : ℕ) → AreValues c.locals l → GoodEffect c s d → Good c e (after_effect call next d l st f)
effect_good call c gc s e next g (Continues vs store) l st f n k = g l vs store f k n
effect_good call c gc s e next g (ReadsLocal index vs) l st f n k =
    let x = local_is c.locals l index k.0 n k.1 in
    subst (λ o. Good c e (on_found o (λ v. next l (v ∷ vs) st f))) (sym x.1) (g l (x.0 ∷ vs) st f (k.2 x.0 x.2) n)
effect_good call c gc s e next g (WritesLocal index v vs) l st f n k =
    let x = local_is c.locals l index k.0 n k.1 in
    subst (λ o. Good c e (on_found o (λ old. cond (is_same old.ty v.ty) (next (slice_set l index v) vs st f) (Over Stuck)))) (sym x.1)
    (subst (λ b. Good c e (cond b (next (slice_set l index v) vs st f) (Over Stuck))) (sym (alike k.0 x.0 v x.2 k.2))
    (g (slice_set l index v) vs st f k.3 (set_are c.locals l index k.0 v n k.1 k.2)))
effect_good call c gc s e next g (Branches label vs) l st f n k = (k.0, k.1, k.2, n)
effect_good call c gc s e next g (Returns vs) l st f n k = k
effect_good call c gc s e next g (Calls index vs) l st f n k =
    gc.by c e index k.0 vs st f (next l) k.1 k.2.top (λ results st f are. g l (results ++ k.2.top.parts.below) st f (k.2.then results are) n)
effect_good call c gc s e next g (Traps kind) l st f n k = tt
effect_good call c gc s e next g effect.Stuck l st f n k = absurd k

choice_good : (c : Context) (e s : OperandTypes) (vs : List Value) (one other : List Value → Outcome) → One I32 s vs
    → ((vs : List Value) → Reached s vs → Good c e (one vs)) → ((vs : List Value) → Reached s vs → Good c e (other vs)) → Good c e (choice vs one other)
choice_good c e s vs one other k g h =
    subst (λ o. Good c e (on_found o (λ p. picks p))) (sym (split_i32 s vs k)) (by_test (k.v.bits == 0))
  where
    picks : Split Value → Outcome
    picks p = of_top p.top p.below
      where
        of_top : List Value → List Value → Outcome
        of_top [] below = Over Stuck
        of_top (c ∷ none) below = cond (c.bits == 0) (other below) (one below)

    by_test : (b : Bool) → Good c e (cond b (other k.rest) (one k.rest))
    by_test true = h k.rest k.reached
    by_test false = g k.rest k.reached

-- ---- lists of instructions

record Closes (held : ℕ) (ts : List ValType) (end before e : OperandTypes) : Type 0 where
  whole : exact ts end ≡ Ok tt
  room : held + height (with_operands ts before) ≤ most_slots
  is : with_operands ts before ≡ e

closes : (p held : ℕ) (ts : List ValType) (end before e : OperandTypes) → at p (closing held ts end before) ≡ Ok e → Closes held ts end before e
closes p held ts end before e is =
    let x = passed (exact ts end) (λ _. with_room held (with_operands ts before)) e (at_passed p (closing held ts end before) e is) in
    let y = room_is held (with_operands ts before) e x.then in
    record { whole = x.is; room = y.0; is = y.1 }

record Opens (held : ℕ) (s first : OperandTypes) : Type 0 where
  room : held + height s + 0 ≤ most_slots
  is : no_operands ≡ first

opens : (p held : ℕ) (s first : OperandTypes) → at p (opening held s) ≡ Ok first → Opens held s first
opens p held s first is =
    let x = room_is (held + height s) no_operands first (at_passed p (opening held s) first is) in
    record { room = x.0; is = x.1 }

from_none : (first : OperandTypes) → no_operands ≡ first → (c : Context) (held p : ℕ) (code : Code) (left : Left)
    → type_of c held p code first ≡ Ok left → type_of c held p code no_operands ≡ Ok left
from_none first is c held p code left x = ap (type_of c held p code) is ∙ x

-- the slots that a list holds for those inside it
inside : (m : NestedModule) (call : Invoke) (c : Context) (held : ℕ) (s : OperandTypes) (vs : List Value) (inner : Code) (e : OperandTypes)
    → Reached s vs → GoodRun c no_operands e (exec m call (held + height s) inner) → GoodRun c no_operands e (exec m call (held + length vs) inner)
inside m call c held s vs inner e r g = subst (λ k. GoodRun c no_operands e (exec m call (held + k) inner)) (sym (reached_length s vs r)) g

no_results : (ts : List ValType) → exact ts no_operands ≡ Ok tt → ts ≡ []
no_results [] x = refl
no_results (t ∷ ts) x = cc

pub sound : (call : Invoke) (code : Code) (c : Context) → HasTable c.parts → GoodCalls c.parts call → (held p : ℕ) (s : OperandTypes) (left : Left)
    → held + height s ≤ most_slots → type_of c held p code s ≡ Ok left → GoodRun c s left.types (exec c.parts call held code)
sound call Nil c ht gc held p s left le is l vs st f r n =
    let last : Left = record { types = s; closer = p } in
    subst (λ o. Good c left.types o) (sym (has_room held vs (Next l vs st f) (roomy held s vs le r)))
    (subst (λ s. Reached s vs) (ap (λ (x : Left). x.types) (ok_is last left is)) r, n)
sound call (Leaf i rest) c ht gc held p s left le is l vs st f r n =
    let x = passed (at p (instr_type c i s >>= with_room held)) (λ s. type_of c held (p + 1) rest s) left is in
    let y = passed (instr_type c i s) (with_room held) x.it (at_passed p (instr_type c i s >>= with_room held) x.it x.is) in
    let z = room_is held y.it x.it y.then in
    let room = subst (λ s. held + height s ≤ most_slots) z.1 z.0 in
    let good = subst (λ s. GoodEffect c s (effect_of typed c.parts i vs st)) z.1 (instr_good c ht i s y.it vs st y.is r) in
    begin_good c left.types held s vs st f (λ f. after_effect call (exec c.parts call held rest) (effect_of typed c.parts i vs st) l st f) le r (λ f.
    effect_good call c gc x.it left.types (exec c.parts call held rest) (sound call rest c ht gc held (p + 1) x.it left room x.then) (effect_of typed c.parts i vs st) l st f n good)
sound call (InBlock t inner rest) c ht gc held p s left le is l vs st f r n =
    let ts = types_of t in
    let x = passed (at p (opening held s)) _ left is in
    let o = opens p held s x.it x.is in
    let y = passed (type_of (with_label ts c) (held + height s) (p + 1) inner x.it) _ left x.then in
    let z = passed (at y.it.closer (closing held ts y.it.types s)) _ left y.then in
    let k = closes y.it.closer held ts y.it.types s z.it z.is in
    let within_it = sound call inner (with_label ts c) ht gc (held + height s) (p + 1) no_operands y.it o.room (from_none x.it o.is (with_label ts c) (held + height s) (p + 1) inner y.it y.is) in
    let behind = sound call rest c ht gc held (y.it.closer + 1) (with_operands ts s) left k.room (ap (type_of c held (y.it.closer + 1) rest) k.is ∙ z.then) in
    begin_good c left.types held s vs st f (λ f. after_block ts vs (exec c.parts call held rest) (exec c.parts call (held + length vs) inner l [] st f)) le r (λ f.
    after_good c y.it.types left.types ts s vs (exec c.parts call held rest) (exec c.parts call (held + length vs) inner l [] st f) tt k.whole r behind
    (inside c.parts call (with_label ts c) held s vs inner y.it.types r within_it l [] st f tt n))
sound call (InLoop t inner rest) c ht gc held p s left le is l vs st f r n =
    let ts = types_of t in
    let x = passed (at p (opening held s)) _ left is in
    let o = opens p held s x.it x.is in
    let y = passed (type_of (with_label [] c) (held + height s) (p + 1) inner x.it) _ left x.then in
    let z = passed (at y.it.closer (closing held ts y.it.types s)) _ left y.then in
    let k = closes y.it.closer held ts y.it.types s z.it z.is in
    let within_it = sound call inner (with_label [] c) ht gc (held + height s) (p + 1) no_operands y.it o.room (from_none x.it o.is (with_label [] c) (held + height s) (p + 1) inner y.it y.is) in
    let behind = sound call rest c ht gc held (y.it.closer + 1) (with_operands ts s) left k.room (ap (type_of c held (y.it.closer + 1) rest) k.is ∙ z.then) in
    let body = exec c.parts call (held + length vs) inner in
    begin_good c left.types held s vs st f (λ f. after_block [] vs (exec c.parts call held rest) (loop_outcome body l st f)) le r (λ f.
    after_loop c y.it.types left.types ts s vs (exec c.parts call held rest) (loop_outcome body l st f) tt k.whole r behind
    (iterations_good (suc f) c y.it.types body (inside c.parts call (with_label [] c) held s vs inner y.it.types r within_it) l st f n))
sound call (IfOnly t inner rest) c ht gc held p s0 left le is l vs st f r n =
    let ts = types_of t in
    let w = passed (at p (below I32 s0)) _ left is in
    let s = w.it in
    let one = below_is I32 s0 s vs (at_passed p (below I32 s0) s w.is) r in
    let x = passed (at p (opening held s)) _ left w.then in
    let o = opens p held s x.it x.is in
    let y = passed (type_of (with_label ts c) (held + height s) (p + 1) inner x.it) _ left x.then in
    let v = passed (at y.it.closer (exact ts y.it.types)) _ left y.then in
    let z = passed (at y.it.closer (closing held ts no_operands s)) _ left v.then in
    let k = closes y.it.closer held ts no_operands s z.it z.is in
    let none = no_results ts k.whole in
    let within_it = sound call inner (with_label ts c) ht gc (held + height s) (p + 1) no_operands y.it o.room (from_none x.it o.is (with_label ts c) (held + height s) (p + 1) inner y.it y.is) in
    let behind = sound call rest c ht gc held (y.it.closer + 1) (with_operands ts s) left k.room (ap (type_of c held (y.it.closer + 1) rest) k.is ∙ z.then) in
    let passed_by = subst (λ ts. GoodRun c (with_operands ts s) left.types (exec c.parts call held rest)) none behind in
    begin_good c left.types held s0 vs st f (λ f. choice vs
    (λ vs. after_block ts vs (exec c.parts call held rest) (exec c.parts call (held + length vs) inner l [] st f))
    (λ vs. exec c.parts call held rest l vs st f)) le r (λ f.
    choice_good c left.types s vs
    (λ vs. after_block ts vs (exec c.parts call held rest) (exec c.parts call (held + length vs) inner l [] st f))
    (λ vs. exec c.parts call held rest l vs st f) one
    (λ vs r. after_good c y.it.types left.types ts s vs (exec c.parts call held rest) (exec c.parts call (held + length vs) inner l [] st f) v.it (at_passed y.it.closer (exact ts y.it.types) v.it v.is) r behind
    (inside c.parts call (with_label ts c) held s vs inner y.it.types r within_it l [] st f tt n))
    (λ vs r. passed_by l vs st f r n))
sound call (IfElse t first second rest) c ht gc held p s0 left le is l vs st f r n =
    let ts = types_of t in
    let w = passed (at p (below I32 s0)) _ left is in
    let s = w.it in
    let one = below_is I32 s0 s vs (at_passed p (below I32 s0) s w.is) r in
    let x = passed (at p (opening held s)) _ left w.then in
    let o = opens p held s x.it x.is in
    let y = passed (type_of (with_label ts c) (held + height s) (p + 1) first x.it) _ left x.then in
    let v = passed (at y.it.closer (exact ts y.it.types)) _ left y.then in
    let x2 = passed (at y.it.closer (opening held s)) _ left v.then in
    let o2 = opens y.it.closer held s x2.it x2.is in
    let y2 = passed (type_of (with_label ts c) (held + height s) (y.it.closer + 1) second x2.it) _ left x2.then in
    let z = passed (at y2.it.closer (closing held ts y2.it.types s)) _ left y2.then in
    let k = closes y2.it.closer held ts y2.it.types s z.it z.is in
    let within_one = sound call first (with_label ts c) ht gc (held + height s) (p + 1) no_operands y.it o.room (from_none x.it o.is (with_label ts c) (held + height s) (p + 1) first y.it y.is) in
    let within_two = sound call second (with_label ts c) ht gc (held + height s) (y.it.closer + 1) no_operands y2.it o2.room (from_none x2.it o2.is (with_label ts c) (held + height s) (y.it.closer + 1) second y2.it y2.is) in
    let behind = sound call rest c ht gc held (y2.it.closer + 1) (with_operands ts s) left k.room (ap (type_of c held (y2.it.closer + 1) rest) k.is ∙ z.then) in
    begin_good c left.types held s0 vs st f (λ f. choice vs
    (λ vs. after_block ts vs (exec c.parts call held rest) (exec c.parts call (held + length vs) first l [] st f))
    (λ vs. after_block ts vs (exec c.parts call held rest) (exec c.parts call (held + length vs) second l [] st f))) le r (λ f.
    choice_good c left.types s vs
    (λ vs. after_block ts vs (exec c.parts call held rest) (exec c.parts call (held + length vs) first l [] st f))
    (λ vs. after_block ts vs (exec c.parts call held rest) (exec c.parts call (held + length vs) second l [] st f)) one
    (λ vs r. after_good c y.it.types left.types ts s vs (exec c.parts call held rest) (exec c.parts call (held + length vs) first l [] st f) v.it (at_passed y.it.closer (exact ts y.it.types) v.it v.is) r behind
    (inside c.parts call (with_label ts c) held s vs first y.it.types r within_one l [] st f tt n))
    (λ vs r. after_good c y2.it.types left.types ts s vs (exec c.parts call held rest) (exec c.parts call (held + length vs) second l [] st f) tt k.whole r behind
    (inside c.parts call (with_label ts c) held s vs second y2.it.types r within_two l [] st f tt n)))
