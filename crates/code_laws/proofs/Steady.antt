-- What ends with some fuel does the same with more, and uses the same.
use Rattle.std.proofs.Common.{◌≡◌, ℕ, zero, suc, ◌+◌, ◌<◌, List, [], ◌∷◌, ◌++◌, length, Option, Some, None, refl, sym, ap, ◌∙◌, subst, Bool, true, false, arith}
use Rattle.std.specs.Prelude.{cond, map, reverse, nat_lt, slice_get, slice_set, ◌-◌, ◌==◌}
use Rattle.wasm_types.specs.declared.instr.ValType.{ValType}
use Rattle.wasm_types.specs.declared.instr.ValType.TheVariants.{I32}
use Rattle.wasm_types.specs.Nested.{Code, Nil, Leaf, InBlock, InLoop, IfOnly, IfElse}
use Rattle.wasm_types.specs.Modules.{NestedModule}
use Rattle.code_specs.specs.declared.trap.TrapKind.{TrapKind}
use Rattle.code_specs.specs.declared.trap.TrapKind.TheVariants.{Depth}
use Rattle.code_specs.specs.Values.{Value, Split, is_same, split, most_slots, zero_of}
use Rattle.code_specs.specs.Stores.{Store}
use Rattle.code_specs.specs.Signatures.{Function, function_at, types_of}
use Rattle.code_specs.specs.Effects.{Effect, Continues, ReadsLocal, WritesLocal, Branches, Returns, Calls, Traps, typed, effect_of}
use Rattle.code_specs.specs.Effects as effect
use Rattle.code_specs.specs.Execution.{Answer, Returned, Trapped, Spent, Stuck, Outcome, Next, Branch, Return, Over, Run, Continuation, Invoke, most_frames, on_found, paying, within, after_effect, after_block, after_iteration, loop_outcome, choice, exec, answer_with, answer_after, function_answer, after_call, invoke, arguments_of, answer_of_function, answer_of, fuel_left}
use Rattle.code_laws.specs.Fuel.{with_left, Ends, Uses}
use Rattle.code_laws.proofs.Spending.{Within, Spends, exec_spends, invoke_spends, loop_again}

abbrev left_of : Outcome → ℕ
left_of (Next l vs s f) = f
left_of (Branch label l vs s f) = f
left_of (Return vs s f) = f
left_of (Over a) = fuel_left a

abbrev refuel : ℕ → Outcome → Outcome
refuel n (Next l vs s f) = Next l vs s n
refuel n (Branch label l vs s f) = Branch label l vs s n
refuel n (Return vs s f) = Return vs s n
refuel n (Over a) = Over (with_left n a)

-- it came to an end of its own
abbrev Settled : Outcome → Type 0
Settled (Next l vs s f) = Unit {0}
Settled (Branch label l vs s f) = Unit {0}
Settled (Return vs s f) = Unit {0}
Settled (Over a) = Ends a

record Counted (go : ℕ → Outcome) (f : ℕ) : Type 0 where
  used : ℕ
  is : f ≡ used + left_of (go f)
  same : (j : ℕ) → go (used + j) ≡ refuel j (go f)

abbrev Steady : (ℕ → Outcome) → ℕ → Type 0
Steady go f = Settled (go f) → Counted go f

abbrev SteadyRun : Run → Type 0
SteadyRun run = (l vs : List Value) (s : Store) (f : ℕ) → Steady (run l vs s) f

record SteadyCall (call : Invoke) : Type 0 where
  by : (i : ℕ) (vs : List Value) (s : Store) (next : Continuation) → ((vs : List Value) (s : Store) (f : ℕ) → Steady (next vs s) f) → (f : ℕ) → Steady (λ f. call i vs s f next) f

-- an outcome that uses nothing
instant : (make : ℕ → Outcome) → ((j k : ℕ) → refuel j (make k) ≡ make j) → ((k : ℕ) → left_of (make k) ≡ k) → (f : ℕ) → Steady make f
instant make r e f h = record { used = 0; is = omega (arith, e f); same = λ j. ap make (omega arith) ∙ sym (r j f) }

same_everywhere : (go to : ℕ → Outcome) → ((f : ℕ) → go f ≡ to f) → (f : ℕ) → Steady to f → Steady go f
same_everywhere go to e f g h =
    let c = g (subst Settled (e f) h) in
    record { used = c.used; is = c.is ∙ ap (λ o. c.used + left_of o) (sym (e f)); same = λ j. e (c.used + j) ∙ c.same j ∙ ap (refuel j) (sym (e f)) }

-- one after the other
chain : (go : ℕ → Outcome) (then : Outcome → Outcome) (f k : ℕ) (make next : ℕ → Outcome) → go f ≡ make k → ((j : ℕ) → refuel j (make k) ≡ make j)
    → left_of (make k) ≡ k → Settled (make k) → ((j : ℕ) → then (make j) ≡ next j) → Steady go f → Steady next k → Steady (λ f. then (go f)) f
chain go then f k make next e r lk sm t g n h =
    let c = g (subst Settled (sym e) sm) in
    let there : then (go f) ≡ next k = ap then e ∙ t k in
    let d = n (subst Settled there h) in
    record {
      used = c.used + d.used;
      is = omega (arith, c.is, ap left_of e, lk, d.is, ap left_of there);
      same = λ j. ap (λ n. then (go n)) (omega arith) ∙ ap then (c.same (d.used + j) ∙ ap (refuel (d.used + j)) e ∙ r (d.used + j)) ∙ t (d.used + j) ∙ d.same j ∙ ap (refuel j) (sym there);
    }

found_steady : {A : Type 0} (o : Option A) (go : A → ℕ → Outcome) (f : ℕ) → ((a : A) → Steady (go a) f) → Steady (λ f. on_found o (λ a. go a f)) f
found_steady None go f g h = absurd h
found_steady (Some a) go f g h = g a h

stuck_if : (b : Bool) (go : ℕ → Outcome) (f : ℕ) → Steady go f → Steady (λ f. cond b (Over Stuck) (go f)) f
stuck_if true go f g h = absurd h
stuck_if false go f g h = g h

stuck_unless : (b : Bool) (go : ℕ → Outcome) (f : ℕ) → Steady go f → Steady (λ f. cond b (go f) (Over Stuck)) f
stuck_unless true go f g h = g h
stuck_unless false go f g h = absurd h

paid : (s : Store) (go : ℕ → Outcome) (f : ℕ) → ((f : ℕ) → Steady go f) → Steady (λ f. paying s f go) f
paid s go zero g h = absurd h
paid s go (suc f) g h =
    let c = g f h in
    record { used = suc c.used; is = omega (arith, c.is); same = λ j. (let shift : suc c.used + j ≡ suc (c.used + j) = omega arith in ap (λ n. paying s n go) shift ∙ c.same j) }

begins : (held : ℕ) (vs : List Value) (s : Store) (go : ℕ → Outcome) (f : ℕ) → ((f : ℕ) → Steady go f) → Steady (λ f. within held vs (paying s f go)) f
begins held vs s go f g = stuck_if (nat_lt most_slots (held + length vs)) (λ f. paying s f go) f (paid s go f g)

block_steady : (ts : List ValType) (before : List Value) (next : Run) → SteadyRun next → (go : ℕ → Outcome) (f : ℕ) → Steady go f → Steady (λ f. after_block ts before next (go f)) f
block_steady ts before next n go f g = by_outcome (go f) refl
  where
    by_outcome : (o : Outcome) → go f ≡ o → Steady (λ f. after_block ts before next (go f)) f
    by_outcome (Next l vs s k) e = chain go (after_block ts before next) f k (Next l vs s) (next l (vs ++ before) s) e (λ j. refl) refl tt (λ j. refl) g (n l (vs ++ before) s k)
    by_outcome (Branch zero l vs s k) e =
        chain go (after_block ts before next) f k (Branch zero l vs s) (λ f. on_found (split ts vs) (λ p. next l (p.top ++ before) s f)) e (λ j. refl) refl tt (λ j. refl) g
        (found_steady (split ts vs) (λ p. next l (p.top ++ before) s) k (λ p. n l (p.top ++ before) s k))
    by_outcome (Branch (suc label) l vs s k) e =
        chain go (after_block ts before next) f k (Branch (suc label) l vs s) (Branch label l vs s) e (λ j. refl) refl tt (λ j. refl) g (instant (Branch label l vs s) (λ j k. refl) (λ k. refl) k)
    by_outcome (Return vs s k) e =
        chain go (after_block ts before next) f k (Return vs s) (Return vs s) e (λ j. refl) refl tt (λ j. refl) g (instant (Return vs s) (λ j k. refl) (λ k. refl) k)
    by_outcome (Over (Returned vs s k)) e =
        chain go (after_block ts before next) f k (λ k. Over (Returned vs s k)) (λ k. Over (Returned vs s k)) e (λ j. refl) refl tt (λ j. refl) g (instant (λ k. Over (Returned vs s k)) (λ j k. refl) (λ k. refl) k)
    by_outcome (Over (Trapped kind s k)) e =
        chain go (after_block ts before next) f k (λ k. Over (Trapped kind s k)) (λ k. Over (Trapped kind s k)) e (λ j. refl) refl tt (λ j. refl) g (instant (λ k. Over (Trapped kind s k)) (λ j k. refl) (λ k. refl) k)
    by_outcome (Over (Spent s)) e = λ h. absurd (subst (λ o. Settled (after_block ts before next o)) e h)
    by_outcome (Over Stuck) e = λ h. absurd (subst (λ o. Settled (after_block ts before next o)) e h)

-- after an iteration, where the rest of the loop is known to be steady with less fuel
iteration_steady : (next : List Value → Store → ℕ → Outcome) (go : ℕ → Outcome) (f : ℕ) → Within f (go f)
    → ((l : List Value) (s : Store) (k : ℕ) → k < f → Steady (next l s) k) → Steady go f → Steady (λ f. after_iteration next (go f)) f
iteration_steady next go f w n g = by_outcome (go f) refl
  where
    by_outcome : (o : Outcome) → go f ≡ o → Steady (λ f. after_iteration next (go f)) f
    by_outcome (Next l vs s k) e = chain go (after_iteration next) f k (Next l vs s) (Next l vs s) e (λ j. refl) refl tt (λ j. refl) g (instant (Next l vs s) (λ j k. refl) (λ k. refl) k)
    by_outcome (Branch zero l vs s k) e =
        chain go (after_iteration next) f k (Branch zero l vs s) (next l s) e (λ j. refl) refl tt (λ j. refl) g (n l s k (subst (Within f) e w))
    by_outcome (Branch (suc label) l vs s k) e =
        chain go (after_iteration next) f k (Branch (suc label) l vs s) (Branch (suc label) l vs s) e (λ j. refl) refl tt (λ j. refl) g (instant (Branch (suc label) l vs s) (λ j k. refl) (λ k. refl) k)
    by_outcome (Return vs s k) e =
        chain go (after_iteration next) f k (Return vs s) (Return vs s) e (λ j. refl) refl tt (λ j. refl) g (instant (Return vs s) (λ j k. refl) (λ k. refl) k)
    by_outcome (Over (Returned vs s k)) e =
        chain go (after_iteration next) f k (λ k. Over (Returned vs s k)) (λ k. Over (Returned vs s k)) e (λ j. refl) refl tt (λ j. refl) g (instant (λ k. Over (Returned vs s k)) (λ j k. refl) (λ k. refl) k)
    by_outcome (Over (Trapped kind s k)) e =
        chain go (after_iteration next) f k (λ k. Over (Trapped kind s k)) (λ k. Over (Trapped kind s k)) e (λ j. refl) refl tt (λ j. refl) g (instant (λ k. Over (Trapped kind s k)) (λ j k. refl) (λ k. refl) k)
    by_outcome (Over (Spent s)) e = λ h. absurd (subst (λ o. Settled (after_iteration next o)) e h)
    by_outcome (Over Stuck) e = λ h. absurd (subst (λ o. Settled (after_iteration next o)) e h)

loop_steady : (body : Run) → Spends body → SteadyRun body → (n : ℕ) (l : List Value) (s : Store) (f : ℕ) → f < n → Steady (loop_outcome body l s) f
loop_steady body sp g zero l s f lt = absurd (omega (arith, lt))
loop_steady body sp g (suc n) l s f lt =
    same_everywhere (loop_outcome body l s) (λ f. after_iteration (loop_outcome body) (body l [] s f)) (loop_again body sp l s) f
    (iteration_steady (loop_outcome body) (body l [] s) f (sp l [] s f) (λ l s k less. loop_steady body sp g n l s k (omega (arith, lt, less))) (g l [] s f))

effect_steady : (call : Invoke) → SteadyCall call → (next : Run) → SteadyRun next → (d : Effect Value) (l : List Value) (s : Store) (f : ℕ) → Steady (λ f. after_effect call next d l s f) f
effect_steady call c next n (Continues vs store) l s f = n l vs store f
effect_steady call c next n (ReadsLocal i vs) l s f = found_steady (slice_get l i) (λ v. next l (v ∷ vs) s) f (λ v. n l (v ∷ vs) s f)
effect_steady call c next n (WritesLocal i v vs) l s f =
    found_steady (slice_get l i) (λ old f. cond (is_same old.ty v.ty) (next (slice_set l i v) vs s f) (Over Stuck)) f
    (λ old. stuck_unless (is_same old.ty v.ty) (next (slice_set l i v) vs s) f (n (slice_set l i v) vs s f))
effect_steady call c next n (Branches label vs) l s f = instant (Branch label l vs s) (λ j k. refl) (λ k. refl) f
effect_steady call c next n (Returns vs) l s f = instant (Return vs s) (λ j k. refl) (λ k. refl) f
effect_steady call c next n (Calls i vs) l s f = c.by i vs s (next l) (n l) f
effect_steady call c next n (Traps kind) l s f = instant (λ k. Over (Trapped kind s k)) (λ j k. refl) (λ k. refl) f
effect_steady call c next n effect.Stuck l s f = λ h. absurd h

choice_steady : (vs : List Value) (one other : ℕ → List Value → Outcome) (f : ℕ) → ((vs : List Value) → Steady (λ f. one f vs) f) → ((vs : List Value) → Steady (λ f. other f vs) f) → Steady (λ f. choice vs (one f) (other f)) f
choice_steady vs one other f g h = by_split (split (I32 ∷ []) vs)
  where
    picks : ℕ → List Value → List Value → Outcome
    picks f [] below = Over Stuck
    picks f (c ∷ none) below = cond (c.bits == 0) (other f below) (one f below)

    by_test : (b : Bool) (below : List Value) → Steady (λ f. cond b (other f below) (one f below)) f
    by_test true below = h below
    by_test false below = g below

    of_top : (top below : List Value) → Steady (λ f. picks f top below) f
    of_top [] below = λ h. absurd h
    of_top (c ∷ none) below = by_test (c.bits == 0) below

    by_split : (o : Option (Split Value)) → Steady (λ f. on_found o (λ p. picks f p.top p.below)) f
    by_split None = λ h. absurd h
    by_split (Some p) = of_top p.top p.below

exec_steady : (m : NestedModule) (frames : ℕ) → SteadyCall (invoke m frames) → (held : ℕ) (code : Code) → SteadyRun (exec m (invoke m frames) held code)
exec_steady m d c held Nil l vs s f = stuck_if (nat_lt most_slots (held + length vs)) (Next l vs s) f (instant (Next l vs s) (λ j k. refl) (λ k. refl) f)
exec_steady m d c held (Leaf i rest) l vs s f =
    begins held vs s (λ f. after_effect (invoke m d) (exec m (invoke m d) held rest) (effect_of typed m i vs s) l s f) f (λ f. effect_steady (invoke m d) c (exec m (invoke m d) held rest) (exec_steady m d c held rest) (effect_of typed m i vs s) l s f)
exec_steady m d c held (InBlock r inner rest) l vs s f =
    begins held vs s (λ f. after_block (types_of r) vs (exec m (invoke m d) held rest) (exec m (invoke m d) (held + length vs) inner l [] s f)) f (λ f. block_steady (types_of r) vs (exec m (invoke m d) held rest) (exec_steady m d c held rest) (exec m (invoke m d) (held + length vs) inner l [] s) f (exec_steady m d c (held + length vs) inner l [] s f))
exec_steady m d c held (InLoop r inner rest) l vs s f =
    let body = exec m (invoke m d) (held + length vs) inner in
    begins held vs s (λ f. after_block [] vs (exec m (invoke m d) held rest) (loop_outcome body l s f)) f (λ f. block_steady [] vs (exec m (invoke m d) held rest) (exec_steady m d c held rest) (loop_outcome body l s) f
    (loop_steady body (exec_spends m (invoke m d) (invoke_spends m d) (held + length vs) inner) (exec_steady m d c (held + length vs) inner) (suc f) l s f (omega arith)))
exec_steady m d c held (IfOnly r inner rest) l vs s f =
    let one = λ (f : ℕ) (vs : List Value). after_block (types_of r) vs (exec m (invoke m d) held rest) (exec m (invoke m d) (held + length vs) inner l [] s f) in
    let other = λ (f : ℕ) (vs : List Value). exec m (invoke m d) held rest l vs s f in
    begins held vs s (λ f. choice vs (one f) (other f)) f (λ f. choice_steady vs one other f
    (λ vs. block_steady (types_of r) vs (exec m (invoke m d) held rest) (exec_steady m d c held rest) (exec m (invoke m d) (held + length vs) inner l [] s) f (exec_steady m d c (held + length vs) inner l [] s f))
    (λ vs. exec_steady m d c held rest l vs s f))
exec_steady m d c held (IfElse r first second rest) l vs s f =
    let one = λ (f : ℕ) (vs : List Value). after_block (types_of r) vs (exec m (invoke m d) held rest) (exec m (invoke m d) (held + length vs) first l [] s f) in
    let other = λ (f : ℕ) (vs : List Value). after_block (types_of r) vs (exec m (invoke m d) held rest) (exec m (invoke m d) (held + length vs) second l [] s f) in
    begins held vs s (λ f. choice vs (one f) (other f)) f (λ f. choice_steady vs one other f
    (λ vs. block_steady (types_of r) vs (exec m (invoke m d) held rest) (exec_steady m d c held rest) (exec m (invoke m d) (held + length vs) first l [] s) f (exec_steady m d c (held + length vs) first l [] s f))
    (λ vs. block_steady (types_of r) vs (exec m (invoke m d) held rest) (exec_steady m d c held rest) (exec m (invoke m d) (held + length vs) second l [] s) f (exec_steady m d c (held + length vs) second l [] s f)))

-- ---- calls

-- what becomes of an answer: a call is over, or its caller goes on
abbrev SteadyEnd : (Answer Value → Outcome) → Type 0
SteadyEnd end = ((vs : List Value) (s : Store) (f : ℕ) → Steady (λ f. end (Returned vs s f)) f)
    × ((a : Answer Value) → Settled (end a) → Ends a)
    × ((s : Store) (f : ℕ) (kind : TrapKind) → Steady (λ f. end (Trapped kind s f)) f)

body_steady : (end : Answer Value → Outcome) → SteadyEnd end → (ts : List ValType) (go : ℕ → Outcome) (f : ℕ) → Steady go f → Steady (λ f. end (answer_after ts (go f))) f
body_steady end n ts go f g = by_outcome (go f) refl
  where
    results : (vs : List Value) (s : Store) (k : ℕ) (o : Option (Split Value)) → Steady (λ k. end (answer_with o s k)) k
    results vs s k None h = absurd (n.1 Stuck h)
    results vs s k (Some p) h = n.0 p.top s k h

    by_outcome : (o : Outcome) → go f ≡ o → Steady (λ f. end (answer_after ts (go f))) f
    by_outcome (Next l vs s k) e =
        chain go (λ o. end (answer_after ts o)) f k (Next l vs s) (λ k. end (answer_with (split ts vs) s k)) e (λ j. refl) refl tt (λ j. refl) g (results vs s k (split ts vs))
    by_outcome (Branch zero l vs s k) e =
        chain go (λ o. end (answer_after ts o)) f k (Branch zero l vs s) (λ k. end (answer_with (split ts vs) s k)) e (λ j. refl) refl tt (λ j. refl) g (results vs s k (split ts vs))
    by_outcome (Branch (suc label) l vs s k) e = λ h. absurd (n.1 Stuck (subst (λ o. Settled (end (answer_after ts o))) e h))
    by_outcome (Return vs s k) e =
        chain go (λ o. end (answer_after ts o)) f k (Return vs s) (λ k. end (answer_with (split ts vs) s k)) e (λ j. refl) refl tt (λ j. refl) g (results vs s k (split ts vs))
    by_outcome (Over (Returned vs s k)) e =
        chain go (λ o. end (answer_after ts o)) f k (λ k. Over (Returned vs s k)) (λ k. end (Returned vs s k)) e (λ j. refl) refl tt (λ j. refl) g (n.0 vs s k)
    by_outcome (Over (Trapped kind s k)) e =
        chain go (λ o. end (answer_after ts o)) f k (λ k. Over (Trapped kind s k)) (λ k. end (Trapped kind s k)) e (λ j. refl) refl tt (λ j. refl) g (n.2 s k kind)
    by_outcome (Over (Spent s)) e = λ h. absurd (n.1 (Spent s) (subst (λ o. Settled (end (answer_after ts o))) e h))
    by_outcome (Over Stuck) e = λ h. absurd (n.1 Stuck (subst (λ o. Settled (end (answer_after ts o))) e h))

function_steady : (m : NestedModule) (frames : ℕ) → SteadyCall (invoke m frames) → (end : Answer Value → Outcome) → SteadyEnd end
    → (g : Function) (arguments : List Value) (s : Store) (f : ℕ) → Steady (λ f. end (function_answer m (invoke m frames) g arguments s f)) f
function_steady m d c end n g arguments s f =
    let l = reverse arguments ++ map zero_of g.locals in
    body_steady end n (reverse g.ty.results) (exec m (invoke m d) (length l) g.code l [] s) f (exec_steady m d c (length l) g.code l [] s f)

caller_ends : (below : List Value) (next : Continuation) (a : Answer Value) → Settled (after_call below next a) → Ends a
caller_ends below next (Returned vs s f) h = tt
caller_ends below next (Trapped kind s f) h = tt
caller_ends below next (Spent s) h = h
caller_ends below next Stuck h = h

caller_steady : (below : List Value) (next : Continuation) → ((vs : List Value) (s : Store) (f : ℕ) → Steady (next vs s) f) → SteadyEnd (after_call below next)
caller_steady below next n = ((λ vs s f. n (vs ++ below) s f), caller_ends below next, (λ s f kind. instant (λ k. Over (Trapped kind s k)) (λ j k. refl) (λ k. refl) f))

invoke_steady : (m : NestedModule) (frames : ℕ) → SteadyCall (invoke m frames)
unfolding invoke
invoke_steady m zero = record { by = λ i vs s next n f. instant (λ k. Over (Trapped Depth s k)) (λ j k. refl) (λ k. refl) f }
invoke_steady m (suc frames) = record {
  by = λ i vs s next n f.
      found_steady (function_at m i) (λ g f. on_found (split (reverse g.ty.params) vs) (λ arguments. after_call arguments.below next (function_answer m (invoke m frames) g arguments.top s f))) f (λ g.
      found_steady (split (reverse g.ty.params) vs) (λ arguments f. after_call arguments.below next (function_answer m (invoke m frames) g arguments.top s f)) f (λ arguments.
      function_steady m frames (invoke_steady m frames) (after_call arguments.below next) (caller_steady arguments.below next n) g arguments.top s f));
}

over_ends : (a : Answer Value) → Settled (Over a) → Ends a
over_ends a h = h

over_steady : SteadyEnd Over
over_steady = ((λ vs s f. instant (λ k. Over (Returned vs s k)) (λ j k. refl) (λ k. refl) f), over_ends, (λ s f kind. instant (λ k. Over (Trapped kind s k)) (λ j k. refl) (λ k. refl) f))

over_is : (a b : Answer Value) → Over a ≡ Over b → a ≡ b
over_is a b e = cc

pub uses : (m : NestedModule) (index : ℕ) (arguments : List ℕ) (s : Store) (fuel : ℕ) → Ends (answer_of m index arguments s fuel) → Uses (answer_of m index arguments s) fuel
unfolding answer_of
uses m index arguments s fuel = by_function (function_at m index)
  where
    counted : (call : ℕ → Answer Value) → Counted (λ f. Over (call f)) fuel → Uses call fuel
    counted call c = record { used = c.used; counted = c.is; same = λ j. over_is (call (c.used + j)) (with_left j (call fuel)) (c.same j) }

    by_function : (o : Option Function) → Ends (answer_of_function m o arguments s fuel) → Uses (answer_of_function m o arguments s) fuel
    by_function None h = absurd h
    by_function (Some g) h =
        counted (function_answer m (invoke m (most_frames - 1)) g (reverse (arguments_of g.ty.params arguments)) s)
        (function_steady m (most_frames - 1) (invoke_steady m (most_frames - 1)) Over over_steady g (reverse (arguments_of g.ty.params arguments)) s fuel h)

-- ---- with less fuel

left_with : (j : ℕ) (a : Answer Value) → Ends a → fuel_left (with_left j a) ≡ j
left_with j (Returned vs s f) h = refl
left_with j (Trapped kind s f) h = refl
left_with j (Spent s) h = absurd h
left_with j Stuck h = absurd h

less_never_ends : (call : ℕ → Answer Value) (fuel less : ℕ) (u : Uses call fuel) → Uses call less → Ends (call less) → less < u.used → ⊥
less_never_ends call fuel less u v ends lt =
    let j = fuel - v.used in
    let whole : fuel ≡ v.used + j = omega (arith, u.counted, v.counted, lt) in
    let there : call fuel ≡ with_left j (call less) = ap call whole ∙ v.same j in
    let left : fuel_left (call fuel) ≡ j = ap fuel_left there ∙ left_with j (call less) ends in
    omega (arith, u.counted, v.counted, left, whole, lt)

pub less_is_not_enough : (m : NestedModule) (index : ℕ) (arguments : List ℕ) (s : Store) (fuel less : ℕ)
    → (u : Uses (answer_of m index arguments s) fuel) → less < u.used → Ends (answer_of m index arguments s less) → ⊥
less_is_not_enough m index arguments s fuel less u lt ends =
    less_never_ends (answer_of m index arguments s) fuel less u (uses m index arguments s less ends) ends lt
