-- Fuel never rises, and a loop has enough iterations.
use Rattle.std.proofs.Common.{◌≡◌, ℕ, zero, suc, ◌+◌, ◌<◌, ◌≤◌, List, [], ◌∷◌, ◌++◌, length, Option, Some, None, refl, Bool, true, false, arith}
use Rattle.std.specs.Prelude.{cond, map, reverse, nat_lt, slice_get, slice_set, ◌-◌, ◌==◌}
use Rattle.wasm_types.specs.declared.instr.ValType.{ValType}
use Rattle.wasm_types.specs.declared.instr.ValType.TheVariants.{I32}
use Rattle.wasm_types.specs.Nested.{Code, Nil, Leaf, InBlock, InLoop, IfOnly, IfElse}
use Rattle.wasm_types.specs.Modules.{NestedModule}
use Rattle.code_specs.specs.Values.{Value, Split, is_same, split, most_slots, zero_of}
use Rattle.code_specs.specs.Stores.{Store}
use Rattle.code_specs.specs.Signatures.{Function, function_at, types_of}
use Rattle.code_specs.specs.Effects.{Effect, Continues, ReadsLocal, WritesLocal, Branches, Returns, Calls, Traps, typed, effect_of}
use Rattle.code_specs.specs.Effects as effect
use Rattle.code_specs.specs.Execution.{Answer, Returned, Trapped, Spent, Stuck, Outcome, Next, Branch, Return, Over, Run, Continuation, Invoke, most_frames, on_found, paying, within, after_effect, after_block, after_iteration, iterations, loop_outcome, choice, exec, answer_with, answer_after, function_answer, after_call, invoke, arguments_of, answer_of_function, answer_of, fuel_left}

-- an outcome with at most n units left, and below n at a branch
abbrev pub Within : ℕ → Outcome → Type 0
Within n (Next l vs s f) = f ≤ n
Within n (Branch label l vs s f) = f < n
Within n (Return vs s f) = f ≤ n
Within n (Over a) = fuel_left a ≤ n

-- the same where a branch may have all: an instruction takes its unit before it branches
abbrev pub Weakly : ℕ → Outcome → Type 0
Weakly n (Next l vs s f) = f ≤ n
Weakly n (Branch label l vs s f) = f ≤ n
Weakly n (Return vs s f) = f ≤ n
Weakly n (Over a) = fuel_left a ≤ n

abbrev pub Spends : Run → Type 0
Spends run = (l vs : List Value) (s : Store) (f : ℕ) → Within f (run l vs s f)

-- a call goes on with no more fuel than it had
pub record SpendsCall (call : Invoke) : Type 0 where
  pub by : (i : ℕ) (vs : List Value) (s : Store) (f : ℕ) (next : Continuation) → ((vs : List Value) (s : Store) (f : ℕ) → Within f (next vs s f)) → Within f (call i vs s f next)

within_more : (m n : ℕ) (o : Outcome) → m ≤ n → Within m o → Within n o
within_more m n (Next l vs s f) le h = omega arith
within_more m n (Branch label l vs s f) le h = omega arith
within_more m n (Return vs s f) le h = omega arith
within_more m n (Over a) le h = omega arith

weakly : (n : ℕ) (o : Outcome) → Within n o → Weakly n o
weakly n (Next l vs s f) h = h
weakly n (Branch label l vs s f) h = omega arith
weakly n (Return vs s f) h = h
weakly n (Over a) h = h

strictly : (n : ℕ) (o : Outcome) → Weakly n o → Within (suc n) o
strictly n (Next l vs s f) h = omega arith
strictly n (Branch label l vs s f) h = omega arith
strictly n (Return vs s f) h = omega arith
strictly n (Over a) h = omega arith

found_within : {A : Type 0} (n : ℕ) (o : Option A) (go : A → Outcome) → ((a : A) → Within n (go a)) → Within n (on_found o go)
found_within n None go h = omega arith
found_within n (Some a) go h = h a

block_within : (n : ℕ) (ts : List ValType) (before : List Value) (next : Run) (o : Outcome) → Spends next → Within n o → Within n (after_block ts before next o)
block_within n ts before next (Next l vs s f) g h = within_more f n (next l (vs ++ before) s f) h (g l (vs ++ before) s f)
block_within n ts before next (Branch zero l vs s f) g h =
    found_within n (split ts vs) (λ p. next l (p.top ++ before) s f) (λ p. within_more f n (next l (p.top ++ before) s f) (omega arith) (g l (p.top ++ before) s f))
block_within n ts before next (Branch (suc label) l vs s f) g h = h
block_within n ts before next (Return vs s f) g h = h
block_within n ts before next (Over a) g h = h

iteration_within : (n : ℕ) (next : List Value → Store → ℕ → Outcome) (o : Outcome) → ((l : List Value) (s : Store) (f : ℕ) → Within f (next l s f)) → Within n o → Within n (after_iteration next o)
iteration_within n next (Next l vs s f) g h = h
iteration_within n next (Branch zero l vs s f) g h = within_more f n (next l s f) (omega arith) (g l s f)
iteration_within n next (Branch (suc label) l vs s f) g h = h
iteration_within n next (Return vs s f) g h = h
iteration_within n next (Over a) g h = h

iterations_within : (n : ℕ) (body : Run) → Spends body → (l : List Value) (s : Store) (f : ℕ) → Within f (iterations n body l s f)
iterations_within zero body g l s f = omega arith
iterations_within (suc n) body g l s f = iteration_within f (iterations n body) (body l [] s f) (iterations_within n body g) (g l [] s f)

paid : (s : Store) (f : ℕ) (go : ℕ → Outcome) → ((f : ℕ) → Weakly f (go f)) → Within f (paying s f go)
paid s zero go h = omega arith
paid s (suc f) go h = strictly f (go f) (h f)

tested : (f : ℕ) (b : Bool) (o : Outcome) → Within f o → Within f (cond b (Over Stuck) o)
tested f true o h = omega arith
tested f false o h = h

begins : (f held : ℕ) (vs : List Value) (s : Store) (go : ℕ → Outcome) → ((f : ℕ) → Weakly f (go f)) → Within f (within held vs (paying s f go))
begins f held vs s go h = tested f (nat_lt most_slots (held + length vs)) (paying s f go) (paid s f go h)

alike_within : (f : ℕ) (b : Bool) (o : Outcome) → Within f o → Within f (cond b o (Over Stuck))
alike_within f true o h = h
alike_within f false o h = omega arith

effect_weakly : (call : Invoke) → SpendsCall call → (next : Run) → Spends next → (d : Effect Value) (l : List Value) (s : Store) (f : ℕ) → Weakly f (after_effect call next d l s f)
effect_weakly call c next g (Continues vs store) l s f = weakly f (next l vs store f) (g l vs store f)
effect_weakly call c next g (ReadsLocal i vs) l s f =
    weakly f (on_found (slice_get l i) (λ v. next l (v ∷ vs) s f)) (found_within f (slice_get l i) (λ v. next l (v ∷ vs) s f) (λ v. g l (v ∷ vs) s f))
effect_weakly call c next g (WritesLocal i v vs) l s f =
    weakly f (on_found (slice_get l i) (λ old. cond (is_same old.ty v.ty) (next (slice_set l i v) vs s f) (Over Stuck)))
    (found_within f (slice_get l i) (λ old. cond (is_same old.ty v.ty) (next (slice_set l i v) vs s f) (Over Stuck)) (λ old. alike_within f (is_same old.ty v.ty) (next (slice_set l i v) vs s f) (g (slice_set l i v) vs s f)))
effect_weakly call c next g (Branches label vs) l s f = omega arith
effect_weakly call c next g (Returns vs) l s f = omega arith
effect_weakly call c next g (Calls i vs) l s f = weakly f (call i vs s f (next l)) (c.by i vs s f (next l) (g l))
effect_weakly call c next g (Traps kind) l s f = omega arith
effect_weakly call c next g effect.Stuck l s f = omega arith

pick_within : (f : ℕ) (b : Bool) (one other : Outcome) → Within f one → Within f other → Within f (cond b other one)
pick_within f true one other g h = h
pick_within f false one other g h = g

choice_weakly : (f : ℕ) (vs : List Value) (one other : List Value → Outcome) → ((vs : List Value) → Within f (one vs)) → ((vs : List Value) → Within f (other vs)) → Weakly f (choice vs one other)
choice_weakly f vs one other g h = by_split (split (I32 ∷ []) vs)
  where
    picks : List Value → List Value → Outcome
    picks [] below = Over Stuck
    picks (c ∷ none) below = cond (c.bits == 0) (other below) (one below)

    of_top : (top below : List Value) → Within f (picks top below)
    of_top [] below = omega arith
    of_top (c ∷ none) below = pick_within f (c.bits == 0) (one below) (other below) (g below) (h below)

    by_split : (o : Option (Split Value)) → Weakly f (on_found o (λ p. picks p.top p.below))
    by_split None = omega arith
    by_split (Some p) = weakly f (picks p.top p.below) (of_top p.top p.below)

pub exec_spends : (m : NestedModule) (call : Invoke) → SpendsCall call → (held : ℕ) (code : Code) → Spends (exec m call held code)
exec_spends m call c held Nil l vs s f = tested f (nat_lt most_slots (held + length vs)) (Next l vs s f) (omega arith)
exec_spends m call c held (Leaf i rest) l vs s f =
    begins f held vs s (λ f. after_effect call (exec m call held rest) (effect_of typed m i vs s) l s f) (λ f. effect_weakly call c (exec m call held rest) (exec_spends m call c held rest) (effect_of typed m i vs s) l s f)
exec_spends m call c held (InBlock r inner rest) l vs s f =
    let go = λ (f : ℕ). after_block (types_of r) vs (exec m call held rest) (exec m call (held + length vs) inner l [] s f) in
    begins f held vs s go (λ f. weakly f (go f) (block_within f (types_of r) vs (exec m call held rest) (exec m call (held + length vs) inner l [] s f) (exec_spends m call c held rest) (exec_spends m call c (held + length vs) inner l [] s f)))
exec_spends m call c held (InLoop r inner rest) l vs s f =
    let body = exec m call (held + length vs) inner in
    let go = λ (f : ℕ). after_block [] vs (exec m call held rest) (loop_outcome body l s f) in
    begins f held vs s go (λ f. weakly f (go f) (block_within f [] vs (exec m call held rest) (loop_outcome body l s f) (exec_spends m call c held rest) (iterations_within (suc f) body (exec_spends m call c (held + length vs) inner) l s f)))
exec_spends m call c held (IfOnly r inner rest) l vs s f =
    let one = λ (f : ℕ) (vs : List Value). after_block (types_of r) vs (exec m call held rest) (exec m call (held + length vs) inner l [] s f) in
    let other = λ (f : ℕ) (vs : List Value). exec m call held rest l vs s f in
    begins f held vs s (λ f. choice vs (one f) (other f)) (λ f. choice_weakly f vs (one f) (other f)
    (λ vs. block_within f (types_of r) vs (exec m call held rest) (exec m call (held + length vs) inner l [] s f) (exec_spends m call c held rest) (exec_spends m call c (held + length vs) inner l [] s f))
    (λ vs. exec_spends m call c held rest l vs s f))
exec_spends m call c held (IfElse r first second rest) l vs s f =
    let one = λ (f : ℕ) (vs : List Value). after_block (types_of r) vs (exec m call held rest) (exec m call (held + length vs) first l [] s f) in
    let other = λ (f : ℕ) (vs : List Value). after_block (types_of r) vs (exec m call held rest) (exec m call (held + length vs) second l [] s f) in
    begins f held vs s (λ f. choice vs (one f) (other f)) (λ f. choice_weakly f vs (one f) (other f)
    (λ vs. block_within f (types_of r) vs (exec m call held rest) (exec m call (held + length vs) first l [] s f) (exec_spends m call c held rest) (exec_spends m call c (held + length vs) first l [] s f))
    (λ vs. block_within f (types_of r) vs (exec m call held rest) (exec m call (held + length vs) second l [] s f) (exec_spends m call c held rest) (exec_spends m call c (held + length vs) second l [] s f)))

with_most : (n : ℕ) (o : Option (Split Value)) (s : Store) (f : ℕ) → f ≤ n → fuel_left (answer_with o s f) ≤ n
with_most n None s f h = omega arith
with_most n (Some p) s f h = h

after_most : (n : ℕ) (ts : List ValType) (o : Outcome) → Within n o → fuel_left (answer_after ts o) ≤ n
after_most n ts (Next l vs s f) h = with_most n (split ts vs) s f h
after_most n ts (Branch zero l vs s f) h = with_most n (split ts vs) s f (omega arith)
after_most n ts (Branch (suc label) l vs s f) h = omega arith
after_most n ts (Return vs s f) h = with_most n (split ts vs) s f h
after_most n ts (Over a) h = h

call_within : (n : ℕ) (below : List Value) (next : Continuation) (a : Answer Value) → ((vs : List Value) (s : Store) (f : ℕ) → Within f (next vs s f)) → fuel_left a ≤ n → Within n (after_call below next a)
call_within n below next (Returned vs s f) g h = within_more f n (next (vs ++ below) s f) h (g (vs ++ below) s f)
call_within n below next (Trapped kind s f) g h = h
call_within n below next (Spent s) g h = h
call_within n below next Stuck g h = h

function_most : (m : NestedModule) (call : Invoke) → SpendsCall call → (g : Function) (arguments : List Value) (s : Store) (f : ℕ) → fuel_left (function_answer m call g arguments s f) ≤ f
function_most m call c g arguments s f =
    let l = reverse arguments ++ map zero_of g.locals in
    after_most f (reverse g.ty.results) (exec m call (length l) g.code l [] s f) (exec_spends m call c (length l) g.code l [] s f)

pub invoke_spends : (m : NestedModule) (frames : ℕ) → SpendsCall (invoke m frames)
unfolding invoke
invoke_spends m zero = record { by = λ i vs s f next g. omega arith }
invoke_spends m (suc frames) = record {
  by = λ i vs s f next g.
      found_within f (function_at m i) (λ fn. on_found (split (reverse fn.ty.params) vs) (λ arguments. after_call arguments.below next (function_answer m (invoke m frames) fn arguments.top s f))) (λ fn.
      found_within f (split (reverse fn.ty.params) vs) (λ arguments. after_call arguments.below next (function_answer m (invoke m frames) fn arguments.top s f)) (λ arguments.
      call_within f arguments.below next (function_answer m (invoke m frames) fn arguments.top s f) g (function_most m (invoke m frames) (invoke_spends m frames) fn arguments.top s f)));
}

pub never_rises : (m : NestedModule) (index : ℕ) (arguments : List ℕ) (s : Store) (fuel : ℕ) → fuel_left (answer_of m index arguments s fuel) ≤ fuel
unfolding answer_of
never_rises m index arguments s fuel = by_function (function_at m index)
  where
    by_function : (o : Option Function) → fuel_left (answer_of_function m o arguments s fuel) ≤ fuel
    by_function None = omega arith
    by_function (Some f) =
        function_most m (invoke m (most_frames - 1)) (invoke_spends m (most_frames - 1)) f (reverse (arguments_of f.ty.params arguments)) s fuel

-- ---- loops

-- the same iterations in the same order are the same, however many there may be
iteration_same : (n : ℕ) (one two : List Value → Store → ℕ → Outcome) (o : Outcome) → Within n o
    → ((l : List Value) (s : Store) (f : ℕ) → f < n → one l s f ≡ two l s f) → after_iteration one o ≡ after_iteration two o
iteration_same n one two (Next l vs s f) h e = refl
iteration_same n one two (Branch zero l vs s f) h e = e l s f h
iteration_same n one two (Branch (suc label) l vs s f) h e = refl
iteration_same n one two (Return vs s f) h e = refl
iteration_same n one two (Over a) h e = refl

enough : (body : Run) → Spends body → (m n : ℕ) (l : List Value) (s : Store) (f : ℕ) → f < m → f < n → iterations m body l s f ≡ iterations n body l s f
enough body g zero n l s f h k = absurd (omega (arith, h))
enough body g (suc m) zero l s f h k = absurd (omega (arith, k))
enough body g (suc m) (suc n) l s f h k =
    iteration_same f (iterations m body) (iterations n body) (body l [] s f) (g l [] s f) (λ l s f' lt. enough body g m n l s f' (omega (arith, lt, h)) (omega (arith, lt, k)))

-- a loop is its list, and the loop again at a branch to it
pub loop_again : (body : Run) → Spends body → (l : List Value) (s : Store) (f : ℕ) → loop_outcome body l s f ≡ after_iteration (loop_outcome body) (body l [] s f)
loop_again body g l s f =
    iteration_same f (iterations f body) (loop_outcome body) (body l [] s f) (g l [] s f) (λ l s f' lt. enough body g f (suc f') l s f' lt (omega arith))
