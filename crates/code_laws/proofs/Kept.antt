-- What every instruction keeps of the store, every call keeps.
use Rattle.std.proofs.Common.{◌≡◌, ℕ, zero, suc, ◌+◌, List, [], ◌∷◌, ◌++◌, length, Option, Some, None, refl, subst, Bool, true, false}
use Rattle.std.specs.Prelude.{Ok, Err, cond, map, reverse, nat_lt, slice_get, slice_set, slice_index_or, ◌-◌, ◌==◌, ◌^◌}
use Rattle.std.proofs.lemmas.Bool.{ltb-true}
use Rattle.wasm_types.specs.declared.instr.ValType.{ValType}
use Rattle.wasm_types.specs.declared.instr.ValType.TheVariants.{I32}
use Rattle.wasm_types.specs.declared.instr.Instr.{Instr}
use Rattle.wasm_types.specs.declared.instr.Instr.TheVariants.{Unreachable, Br, BrIf, BrTable, Return, Call, CallIndirect, Drop, Select, Local}
use Rattle.wasm_types.specs.declared.module.FuncType.{FuncType}
use Rattle.wasm_types.specs.Spellable.{width}
use Rattle.wasm_types.specs.Nested.{Code, Nil, Leaf, InBlock, InLoop, IfOnly, IfElse}
use Rattle.wasm_types.specs.Modules.{NestedModule}
use Rattle.code_specs.specs.declared.trap.TrapKind.TheVariants as trap
use Rattle.code_specs.specs.Values.{Value, Split, is_same, is_of, bits_of, all_bits, with_top, split, most_slots, zero_of}
use Rattle.code_specs.specs.Stores.{Store}
use Rattle.code_specs.specs.Signatures.{Signature, Function, function_at, types_of, is_same_type, type_of_function, signature_of}
use Rattle.code_specs.specs.Instances.{table_of}
use Rattle.code_specs.specs.Effects.{Effect, Continues, ReadsLocal, WritesLocal, Branches, Returns, Calls, Traps, Meaning, typed, on_split, on_one, on_i32, results, after_meaning, plain_effect, meaning_of, branch_if, selection, checked_call, indirect_call, local_effect, effect_of}
use Rattle.code_specs.specs.Effects as effect
use Rattle.code_specs.specs.Execution.{Answer, Returned, Trapped, Spent, Stuck, Outcome, Next, Branch, Over, Run, Continuation, Invoke, most_frames, on_found, paying, within, after_effect, after_block, after_iteration, iterations, loop_outcome, choice, exec, answer_with, answer_after, body_answer, function_answer, after_call, invoke, arguments_of, answer_of_function, answer_of}
use Rattle.code_specs.specs.Execution as execution
use Rattle.code_laws.specs.Answers.{Fit}
use Rattle.code_laws.proofs.Tests.{both, some_is}

-- operands that are taken fit their types
fit_more : (t : ValType) (ts : List ValType) (v : Value) (vs : List Value) (p : Split Value)
    → ((q : Split Value) → split ts vs ≡ Some q → Fit ts (all_bits q.top))
    → (b : Bool) (o : Option (Split Value)) → is_of t v ≡ b → split ts vs ≡ o → cond b (with_top v o) None ≡ Some p → Fit (t ∷ ts) (all_bits p.top)
fit_more t ts v vs p h false o fits so e = cc
fit_more t ts v vs p h true None fits so e = cc
fit_more t ts v vs p h true (Some q) fits so e =
    subst (λ (p : Split Value). Fit (t ∷ ts) (all_bits p.top)) (some_is (record { top = v ∷ q.top; below = q.below }) p e)
    (ltb-true v.bits (2 ^ width t) (both (is_same t v.ty) (nat_lt v.bits (2 ^ width t)) fits).1, h q so)

split_fits : (ts : List ValType) (vs : List Value) (p : Split Value) → split ts vs ≡ Some p → Fit ts (all_bits p.top)
split_fits [] vs p is = subst (λ (p : Split Value). Fit [] (all_bits p.top)) (some_is (record { top = []; below = vs }) p is) tt
split_fits (t ∷ ts) [] p is = cc
split_fits (t ∷ ts) (v ∷ vs) p is = fit_more t ts v vs p (λ q e. split_fits ts vs q e) (is_of t v) (split ts vs) refl refl is

abbrev pub KeepsMeaning : (Store → Type 0) → Meaning → Type 0
KeepsMeaning P (Ok c) = P c.store
KeepsMeaning P (Err kind) = Unit {0}

-- each plain instruction on operands of its types keeps it
pub record Keeper (m : NestedModule) (P : Store → Type 0) : Type 0 where
  pub by : (i : Instr) (g : Signature) (numbers : List ℕ) (s : Store) → signature_of m i ≡ Some g → Fit g.takes numbers → P s → KeepsMeaning P (meaning_of m i numbers s)

abbrev KeepsEffect : (Store → Type 0) → Effect Value → Type 0
KeepsEffect P (Continues vs s) = P s
KeepsEffect P d = Unit {0}

split_keeps : (P : Store → Type 0) (o : Option (Split Value)) (go : List Value → List Value → Effect Value) → ((p : Split Value) → o ≡ Some p → KeepsEffect P (go p.top p.below)) → KeepsEffect P (on_split o go)
split_keeps P None go h = tt
split_keeps P (Some p) go h = h p refl

one_keeps : (P : Store → Type 0) (vs : List Value) (go : Value → List Value → Effect Value) → ((v : Value) (below : List Value) → KeepsEffect P (go v below)) → KeepsEffect P (on_one vs go)
one_keeps P [] go h = tt
one_keeps P (v ∷ vs) go h = h v vs

i32_keeps : (P : Store → Type 0) (vs : List Value) (go : ℕ → List Value → Effect Value) → ((n : ℕ) (below : List Value) → KeepsEffect P (go n below)) → KeepsEffect P (on_i32 typed vs go)
i32_keeps P vs go h = split_keeps P (split (I32 ∷ []) vs) (λ top below. on_one top (λ v none. go v.bits below)) (λ p e. one_keeps P p.top (λ v none. go v.bits p.below) (λ v none. h v.bits p.below))

either_keeps : (P : Store → Type 0) (b : Bool) (d e : Effect Value) → KeepsEffect P d → KeepsEffect P e → KeepsEffect P (cond b d e)
either_keeps P true d e g h = g
either_keeps P false d e g h = h

selection_keeps : (P : Store → Type 0) (n : ℕ) (vs : List Value) (s : Store) → P s → KeepsEffect P (selection typed n vs s)
selection_keeps P n [] s h = tt
selection_keeps P n (v ∷ []) s h = tt
selection_keeps P n (upper ∷ lower ∷ below) s h = either_keeps P (is_same lower.ty upper.ty) (Continues (cond (n == 0) upper lower ∷ below) s) effect.Stuck h tt

checked_keeps : (P : Store → Type 0) (index : ℕ) (asked has : Option FuncType) (below : List Value) → KeepsEffect P (checked_call index asked has below)
checked_keeps P index None None below = tt
checked_keeps P index None (Some g) below = tt
checked_keeps P index (Some f) None below = tt
checked_keeps P index (Some f) (Some g) below = either_keeps P (is_same_type f g) (Calls index below) (Traps trap.Signature) tt tt

indirect_keeps : (P : Store → Type 0) (m : NestedModule) (ty : ℕ) (entry : Option (Option ℕ)) (below : List Value) → KeepsEffect P (indirect_call m ty entry below)
indirect_keeps P m ty None below = tt
indirect_keeps P m ty (Some None) below = tt
indirect_keeps P m ty (Some (Some index)) below = checked_keeps P index (slice_get m.types ty) (type_of_function m index) below

meaning_keeps : (P : Store → Type 0) (ts : List ValType) (below : List Value) (x : Meaning) → KeepsMeaning P x → KeepsEffect P (after_meaning typed ts below x)
meaning_keeps P ts below (Ok c) h = h
meaning_keeps P ts below (Err kind) h = tt

plain_keeps : (P : Store → Type 0) (m : NestedModule) → Keeper m P → (i : Instr) (g : Option Signature) (vs : List Value) (s : Store) → signature_of m i ≡ g → P s → KeepsEffect P (plain_effect typed m i g vs s)
plain_keeps P m k i None vs s is h = tt
plain_keeps P m k i (Some g) vs s is h =
    split_keeps P (split g.takes vs) (λ top below. after_meaning typed g.gives below (meaning_of m i (map bits_of top) s)) (λ p e.
    meaning_keeps P g.gives p.below (meaning_of m i (all_bits p.top) s) (k.by i g (all_bits p.top) s is (split_fits g.takes vs p e) h))

effect_keeps : (P : Store → Type 0) (m : NestedModule) → Keeper m P → (i : Instr) (vs : List Value) (s : Store) → P s → KeepsEffect P (effect_of typed m i vs s)
unfolding effect_of
effect_keeps P m k Unreachable vs s h = tt
effect_keeps P m k (Br label) vs s h = tt
effect_keeps P m k (BrIf label) vs s h = i32_keeps P vs (λ n below. branch_if n label below s) (λ n below. either_keeps P (n == 0) (Continues below s) (Branches label below) h tt)
effect_keeps P m k (BrTable labels default) vs s h = i32_keeps P vs (λ n below. Branches (slice_index_or labels n default) below) (λ n below. tt)
effect_keeps P m k Return vs s h = tt
effect_keeps P m k (Call index) vs s h = tt
effect_keeps P m k (CallIndirect ty) vs s h = i32_keeps P vs (λ n below. indirect_call m ty (slice_get (table_of m) n) below) (λ n below. indirect_keeps P m ty (slice_get (table_of m) n) below)
effect_keeps P m k Drop vs s h = one_keeps P vs (λ v below. Continues below s) (λ v below. h)
effect_keeps P m k Select vs s h = i32_keeps P vs (λ n below. selection typed n below s) (λ n below. selection_keeps P n below s h)
effect_keeps P m k (Local op index) vs s h =
    either_keeps P (op == 0x20) (ReadsLocal index vs) (cond (op == 0x21) (on_one vs (λ v below. WritesLocal index v below)) (on_one vs (λ v below. WritesLocal index v vs))) tt
    (either_keeps P (op == 0x21) (on_one vs (λ v below. WritesLocal index v below)) (on_one vs (λ v below. WritesLocal index v vs))
    (one_keeps P vs (λ v below. WritesLocal index v below) (λ v below. tt)) (one_keeps P vs (λ v below. WritesLocal index v vs) (λ v below. tt)))
effect_keeps P m k i vs s h = plain_keeps P m k i (signature_of m i) vs s refl h

-- ---- lists and calls

abbrev pub KeepsAnswer : (Store → Type 0) → Answer Value → Type 0
KeepsAnswer P (Returned vs s f) = P s
KeepsAnswer P (Trapped kind s f) = P s
KeepsAnswer P (Spent s) = P s
KeepsAnswer P Stuck = Unit {0}

abbrev Keeps : (Store → Type 0) → Outcome → Type 0
Keeps P (Next l vs s f) = P s
Keeps P (Branch label l vs s f) = P s
Keeps P (execution.Return vs s f) = P s
Keeps P (Over a) = KeepsAnswer P a

abbrev KeepsRun : (Store → Type 0) → Run → Type 0
KeepsRun P run = (l vs : List Value) (s : Store) (f : ℕ) → P s → Keeps P (run l vs s f)

record KeepsCall (P : Store → Type 0) (call : Invoke) : Type 0 where
  by : (i : ℕ) (vs : List Value) (s : Store) (f : ℕ) (next : Continuation) → P s → ((vs : List Value) (s : Store) (f : ℕ) → P s → Keeps P (next vs s f)) → Keeps P (call i vs s f next)

found_keeps : {A : Type 0} (P : Store → Type 0) (o : Option A) (go : A → Outcome) → ((a : A) → Keeps P (go a)) → Keeps P (on_found o go)
found_keeps P None go h = tt
found_keeps P (Some a) go h = h a

block_keeps : (P : Store → Type 0) (ts : List ValType) (before : List Value) (next : Run) (o : Outcome) → KeepsRun P next → Keeps P o → Keeps P (after_block ts before next o)
block_keeps P ts before next (Next l vs s f) g h = g l (vs ++ before) s f h
block_keeps P ts before next (Branch zero l vs s f) g h = found_keeps P (split ts vs) (λ p. next l (p.top ++ before) s f) (λ p. g l (p.top ++ before) s f h)
block_keeps P ts before next (Branch (suc label) l vs s f) g h = h
block_keeps P ts before next (execution.Return vs s f) g h = h
block_keeps P ts before next (Over a) g h = h

iteration_keeps : (P : Store → Type 0) (next : List Value → Store → ℕ → Outcome) (o : Outcome) → ((l : List Value) (s : Store) (f : ℕ) → P s → Keeps P (next l s f)) → Keeps P o → Keeps P (after_iteration next o)
iteration_keeps P next (Next l vs s f) g h = h
iteration_keeps P next (Branch zero l vs s f) g h = g l s f h
iteration_keeps P next (Branch (suc label) l vs s f) g h = h
iteration_keeps P next (execution.Return vs s f) g h = h
iteration_keeps P next (Over a) g h = h

iterations_keep : (P : Store → Type 0) (n : ℕ) (body : Run) → KeepsRun P body → (l : List Value) (s : Store) (f : ℕ) → P s → Keeps P (iterations n body l s f)
iterations_keep P zero body g l s f h = h
iterations_keep P (suc n) body g l s f h = iteration_keeps P (iterations n body) (body l [] s f) (iterations_keep P n body g) (g l [] s f h)

stuck_if : (P : Store → Type 0) (b : Bool) (o : Outcome) → Keeps P o → Keeps P (cond b (Over Stuck) o)
stuck_if P true o h = tt
stuck_if P false o h = h

stuck_unless : (P : Store → Type 0) (b : Bool) (o : Outcome) → Keeps P o → Keeps P (cond b o (Over Stuck))
stuck_unless P true o h = h
stuck_unless P false o h = tt

paying_keeps : (P : Store → Type 0) (s : Store) (f : ℕ) (go : ℕ → Outcome) → P s → ((f : ℕ) → Keeps P (go f)) → Keeps P (paying s f go)
paying_keeps P s zero go h g = h
paying_keeps P s (suc f) go h g = g f

begins : (P : Store → Type 0) (held : ℕ) (vs : List Value) (s : Store) (f : ℕ) (go : ℕ → Outcome) → P s → ((f : ℕ) → Keeps P (go f)) → Keeps P (within held vs (paying s f go))
begins P held vs s f go h g = stuck_if P (nat_lt most_slots (held + length vs)) (paying s f go) (paying_keeps P s f go h g)

after_effect_keeps : (P : Store → Type 0) (call : Invoke) → KeepsCall P call → (next : Run) → KeepsRun P next → (d : Effect Value) (l : List Value) (s : Store) (f : ℕ) → P s → KeepsEffect P d → Keeps P (after_effect call next d l s f)
after_effect_keeps P call c next n (Continues vs store) l s f h k = n l vs store f k
after_effect_keeps P call c next n (ReadsLocal i vs) l s f h k = found_keeps P (slice_get l i) (λ v. next l (v ∷ vs) s f) (λ v. n l (v ∷ vs) s f h)
after_effect_keeps P call c next n (WritesLocal i v vs) l s f h k =
    found_keeps P (slice_get l i) (λ old. cond (is_same old.ty v.ty) (next (slice_set l i v) vs s f) (Over Stuck)) (λ old. stuck_unless P (is_same old.ty v.ty) (next (slice_set l i v) vs s f) (n (slice_set l i v) vs s f h))
after_effect_keeps P call c next n (Branches label vs) l s f h k = h
after_effect_keeps P call c next n (Returns vs) l s f h k = h
after_effect_keeps P call c next n (Calls i vs) l s f h k = c.by i vs s f (next l) h (n l)
after_effect_keeps P call c next n (Traps kind) l s f h k = h
after_effect_keeps P call c next n effect.Stuck l s f h k = tt

choice_keeps : (P : Store → Type 0) (vs : List Value) (one other : List Value → Outcome) → ((vs : List Value) → Keeps P (one vs)) → ((vs : List Value) → Keeps P (other vs)) → Keeps P (choice vs one other)
choice_keeps P vs one other g h = found_keeps P (split (I32 ∷ []) vs) (λ p. picks p.top p.below) (λ p. of_top p.top p.below)
  where
    picks : List Value → List Value → Outcome
    picks [] below = Over Stuck
    picks (c ∷ none) below = cond (c.bits == 0) (other below) (one below)

    by_test : (b : Bool) (below : List Value) → Keeps P (cond b (other below) (one below))
    by_test true below = h below
    by_test false below = g below

    of_top : (top below : List Value) → Keeps P (picks top below)
    of_top [] below = tt
    of_top (c ∷ none) below = by_test (c.bits == 0) below

exec_keeps : (P : Store → Type 0) (m : NestedModule) → Keeper m P → (call : Invoke) → KeepsCall P call → (held : ℕ) (code : Code) → KeepsRun P (exec m call held code)
exec_keeps P m k call c held Nil l vs s f h = stuck_if P (nat_lt most_slots (held + length vs)) (Next l vs s f) h
exec_keeps P m k call c held (Leaf i rest) l vs s f h =
    begins P held vs s f (λ f. after_effect call (exec m call held rest) (effect_of typed m i vs s) l s f) h (λ f. after_effect_keeps P call c (exec m call held rest) (exec_keeps P m k call c held rest) (effect_of typed m i vs s) l s f h (effect_keeps P m k i vs s h))
exec_keeps P m k call c held (InBlock r inner rest) l vs s f h =
    begins P held vs s f (λ f. after_block (types_of r) vs (exec m call held rest) (exec m call (held + length vs) inner l [] s f)) h (λ f. block_keeps P (types_of r) vs (exec m call held rest) (exec m call (held + length vs) inner l [] s f) (exec_keeps P m k call c held rest) (exec_keeps P m k call c (held + length vs) inner l [] s f h))
exec_keeps P m k call c held (InLoop r inner rest) l vs s f h =
    let body = exec m call (held + length vs) inner in
    begins P held vs s f (λ f. after_block [] vs (exec m call held rest) (loop_outcome body l s f)) h (λ f. block_keeps P [] vs (exec m call held rest) (loop_outcome body l s f) (exec_keeps P m k call c held rest) (iterations_keep P (suc f) body (exec_keeps P m k call c (held + length vs) inner) l s f h))
exec_keeps P m k call c held (IfOnly r inner rest) l vs s f h =
    let one = λ (f : ℕ) (vs : List Value). after_block (types_of r) vs (exec m call held rest) (exec m call (held + length vs) inner l [] s f) in
    let other = λ (f : ℕ) (vs : List Value). exec m call held rest l vs s f in
    begins P held vs s f (λ f. choice vs (one f) (other f)) h (λ f. choice_keeps P vs (one f) (other f)
    (λ vs. block_keeps P (types_of r) vs (exec m call held rest) (exec m call (held + length vs) inner l [] s f) (exec_keeps P m k call c held rest) (exec_keeps P m k call c (held + length vs) inner l [] s f h))
    (λ vs. exec_keeps P m k call c held rest l vs s f h))
exec_keeps P m k call c held (IfElse r first second rest) l vs s f h =
    let one = λ (f : ℕ) (vs : List Value). after_block (types_of r) vs (exec m call held rest) (exec m call (held + length vs) first l [] s f) in
    let other = λ (f : ℕ) (vs : List Value). after_block (types_of r) vs (exec m call held rest) (exec m call (held + length vs) second l [] s f) in
    begins P held vs s f (λ f. choice vs (one f) (other f)) h (λ f. choice_keeps P vs (one f) (other f)
    (λ vs. block_keeps P (types_of r) vs (exec m call held rest) (exec m call (held + length vs) first l [] s f) (exec_keeps P m k call c held rest) (exec_keeps P m k call c (held + length vs) first l [] s f h))
    (λ vs. block_keeps P (types_of r) vs (exec m call held rest) (exec m call (held + length vs) second l [] s f) (exec_keeps P m k call c held rest) (exec_keeps P m k call c (held + length vs) second l [] s f h)))

with_keeps : (P : Store → Type 0) (o : Option (Split Value)) (s : Store) (f : ℕ) → P s → KeepsAnswer P (answer_with o s f)
with_keeps P None s f h = tt
with_keeps P (Some p) s f h = h

answer_keeps : (P : Store → Type 0) (ts : List ValType) (o : Outcome) → Keeps P o → KeepsAnswer P (answer_after ts o)
answer_keeps P ts (Next l vs s f) h = with_keeps P (split ts vs) s f h
answer_keeps P ts (Branch zero l vs s f) h = with_keeps P (split ts vs) s f h
answer_keeps P ts (Branch (suc label) l vs s f) h = tt
answer_keeps P ts (execution.Return vs s f) h = with_keeps P (split ts vs) s f h
answer_keeps P ts (Over a) h = h

call_keeps : (P : Store → Type 0) (below : List Value) (next : Continuation) (a : Answer Value) → ((vs : List Value) (s : Store) (f : ℕ) → P s → Keeps P (next vs s f)) → KeepsAnswer P a → Keeps P (after_call below next a)
call_keeps P below next (Returned vs s f) g h = g (vs ++ below) s f h
call_keeps P below next (Trapped kind s f) g h = h
call_keeps P below next (Spent s) g h = h
call_keeps P below next Stuck g h = h

function_keeps : (P : Store → Type 0) (m : NestedModule) → Keeper m P → (call : Invoke) → KeepsCall P call → (g : Function) (arguments : List Value) (s : Store) (f : ℕ) → P s → KeepsAnswer P (function_answer m call g arguments s f)
function_keeps P m k call c g arguments s f h =
    let l = reverse arguments ++ map zero_of g.locals in
    answer_keeps P (reverse g.ty.results) (exec m call (length l) g.code l [] s f) (exec_keeps P m k call c (length l) g.code l [] s f h)

invoke_keeps : (P : Store → Type 0) (m : NestedModule) → Keeper m P → (frames : ℕ) → KeepsCall P (invoke m frames)
unfolding invoke
invoke_keeps P m k zero = record { by = λ i vs s f next h g. h }
invoke_keeps P m k (suc frames) = record {
  by = λ i vs s f next h g.
      found_keeps P (function_at m i) (λ fn. on_found (split (reverse fn.ty.params) vs) (λ arguments. after_call arguments.below next (function_answer m (invoke m frames) fn arguments.top s f))) (λ fn.
      found_keeps P (split (reverse fn.ty.params) vs) (λ arguments. after_call arguments.below next (function_answer m (invoke m frames) fn arguments.top s f)) (λ arguments.
      call_keeps P arguments.below next (function_answer m (invoke m frames) fn arguments.top s f) g (function_keeps P m k (invoke m frames) (invoke_keeps P m k frames) fn arguments.top s f h)));
}

pub kept : (P : Store → Type 0) (m : NestedModule) → Keeper m P → (index : ℕ) (arguments : List ℕ) (s : Store) (fuel : ℕ) → P s → KeepsAnswer P (answer_of m index arguments s fuel)
unfolding answer_of
kept P m k index arguments s fuel h = by_function (function_at m index)
  where
    by_function : (o : Option Function) → KeepsAnswer P (answer_of_function m o arguments s fuel)
    by_function None = tt
    by_function (Some g) = function_keeps P m k (invoke m (most_frames - 1)) (invoke_keeps P m k (most_frames - 1)) g (reverse (arguments_of g.ty.params arguments)) s fuel h
