-- Functions of a guest, as pieces.
use Rattle.std.specs.Prelude.{◌≡◌, ℕ, ◌-◌, List, [], ◌∷◌, ◌++◌, Option, None, Some, unwrap_or, Result, Ok, Err, IfOk, refl, slice_get}
use Rattle.std.proofs.Common.{sym, ap, ◌∙◌, subst}
use Rattle.fmi_states.specs.declared.reply.Broken.{Broken}
use Rattle.fmi_states.specs.declared.reply.Broken.TheVariants as broken
use Rattle.wasm_types.specs.declared.module.FuncType.{FuncType}
use Rattle.wasm_types.specs.declared.module.Module.{Module}
use Rattle.wasm_types.specs.Modules.{NestedModule}
use Rattle.wasm_types.specs.Back.{nested_module}
use Rattle.code_specs.specs.Values.{Value}
use Rattle.code_specs.specs.Stores.{Store}
use Rattle.code_specs.specs.Signatures.{function_at}
use Rattle.code_specs.specs.Execution.{Answer, Returned, Trapped, Spent, Stuck, answer_of}
use Rattle.code_laws.specs.Answers.{Fit}
use Rattle.machine_steps.specs.Answers.{bits_of_answer}
use Rattle.wasm_machine.specs.declared.outcome.Outcome.{Outcome}
use Rattle.wasm_machine.specs.declared.outcome.Outcome.TheVariants as outcome
use Rattle.wasm_machine.specs.Calls.{Fits, answer_with}
use Rattle.binding_specs.specs.declared.function.Function.{Function}
use Rattle.binding_specs.specs.Exports.{type_of, index_of, binding_fault}
use Rattle.binding_specs.specs.Guests.{Guest}
use Rattle.binding_specs.specs.Pieces.{Work, ◌>>=◌, wanted, run, outcome as came_to, behind}
use Rattle.binding_specs.specs.Exchanges.{calls, status_of, the_number, statuses}
use Rattle.binding_laws.proofs.Bound.{is_there}
use Rattle.fmi_binding.specs.Coming.{Held, work_with, Comes, then_in, numbers_in, status_in}
use Rattle.fmi_binding.proofs.Coming.{comes_on, comes_broken, comes_then, gives_comes, breaks_comes, status_comes}

-- ---- a function that is run

abbrev pub ends : Outcome → Result (Option ℕ) Broken
ends (outcome.Value v) = Ok v
ends (outcome.Trap kind) = Err broken.Trap
ends outcome.Spent = Err broken.Spent

-- an answer comes to what it is without types
abbrev of_bits : (budget : ℕ) → Answer ℕ → Work → Result (List ℕ) Broken × Work
of_bits budget (Returned values s left) w = (Ok values, behind budget left s w)
of_bits budget (Trapped kind s left) w = (Err broken.Trap, behind budget left s w)
of_bits budget (Spent s) w = (Err broken.Spent, behind budget 0 s w)
of_bits budget Stuck w = (Err broken.Trap, behind budget 0 w.store w)

by_bits : (budget : ℕ) (a : Answer Value) (w : Work) → came_to budget a w ≡ of_bits budget (bits_of_answer a) w
by_bits budget (Returned values s left) w = refl
by_bits budget (Trapped kind s left) w = refl
by_bits budget (Spent s) w = refl
by_bits budget Stuck w = refl

abbrev left_in : (budget : ℕ) → (fuel : ℕ) → Outcome → List ℕ → List ℕ
left_in budget fuel outcome.Spent used = used ++ (budget - 0) ∷ []
left_in budget fuel other used = used ++ (budget - fuel) ∷ []

by_outcome : (budget fuel : ℕ) (o : Outcome) (s t : Store) (area : ℕ) (used : List ℕ)
    → of_bits budget (answer_with o t fuel) (work_with (record { store = s; area = area }) used)
    ≡ (numbers_in (ends o), work_with (record { store = t; area = area }) (left_in budget fuel o used))
by_outcome budget fuel (outcome.Value v) s t area used = refl
by_outcome budget fuel (outcome.Trap kind) s t area used = refl
by_outcome budget fuel outcome.Spent s t area used = refl

pub run_comes : (m : NestedModule) (budget index : ℕ) (arguments : List ℕ) (o : Outcome) (s t : Store) (fuel area : ℕ)
    → answer_with o t fuel ≡ bits_of_answer (answer_of m index arguments s budget)
    → Comes (run m budget index arguments) (record { store = s; area = area }) (record { store = t; area = area }) (numbers_in (ends o))
run_comes m budget index arguments o s t fuel area e = record {
  each = λ used. (
    left_in budget fuel o used,
    by_bits budget (answer_of m index arguments s budget) (work_with (record { store = s; area = area }) used)
        ∙ ap (λ a. of_bits budget a (work_with (record { store = s; area = area }) used)) (sym e)
        ∙ by_outcome budget fuel o s t area used,
  );
}

-- ---- a function by its name

pub fits_by_name : (m : Module) → binding_fault (nested_module m) ≡ None → (f : Function) (arguments : List ℕ) (index : ℕ)
    → Fit (type_of f).params arguments → Some index ≡ index_of (nested_module m) f → Fits m index arguments
fits_by_name m bound f arguments index fit named =
    let there = is_there (nested_module m) bound f in
    let same : there.index ≡ index = ap (λ o. unwrap_or o 0) (sym there.named ∙ sym named) in
    record {
      f = there.function;
      is = subst (λ i. function_at (nested_module m) i ≡ Some there.function) same there.found;
      fit = subst (λ (t : FuncType). Fit t.params arguments) (sym there.ty) fit;
    }

pub calls_nothing : (g : Guest) (f : Function) (arguments : List ℕ) (h : Held) → None ≡ index_of g.code f
    → Comes (calls g f arguments) h h (Err broken.Trap)
calls_nothing g f arguments h e =
    comes_broken (wanted broken.Trap (index_of g.code f)) (λ index. run g.code g.budget index arguments) h h broken.Trap
    (subst (λ o. Comes (wanted broken.Trap o) h h (Err broken.Trap)) e (breaks_comes broken.Trap h))

pub calls_by_name : (g : Guest) (f : Function) (arguments : List ℕ) (index : ℕ) (h k : Held) (r : Result (List ℕ) Broken)
    → Some index ≡ index_of g.code f
    → Comes (run g.code g.budget index arguments) h k r → Comes (calls g f arguments) h k r
calls_by_name g f arguments index h k r e ran =
    comes_on (wanted broken.Trap (index_of g.code f)) (λ index. run g.code g.budget index arguments) h h k index r
    (subst (λ o. Comes (wanted broken.Trap o) h h (Ok index)) e (gives_comes index h)) ran

pub status_by_numbers : (g : Guest) (f : Function) (arguments : List ℕ) (h k : Held) (r : Result (List ℕ) Broken)
    → Comes (calls g f arguments) h k r → Comes (status_of g f arguments) h k (then_in r status_in)
status_by_numbers g f arguments h k r called =
    comes_then (calls g f arguments) (λ numbers. the_number numbers >>= λ n. wanted broken.BadReply (slice_get statuses n)) h k r status_in
    called (λ numbers. status_comes numbers k)

-- what a run came to, a call by name comes to
pub called_by_name : (g : Guest) (f : Function) (arguments : List ℕ) (index : ℕ) (h k : Held) (o : Result (Option ℕ) Broken)
    → Some index ≡ index_of g.code f
    → Comes (run g.code g.budget index arguments) h k (numbers_in o) → Comes (calls g f arguments) h k (numbers_in o)
called_by_name g f arguments index h k o e ran = calls_by_name g f arguments index h k (numbers_in o) e ran

pub if_ok : {A E : Type 0} {P Q : A → Type 0} (r : Result A E) → IfOk r P → ((x : A) → P x → Q x) → IfOk r Q
if_ok (Ok x) p go = go x p
if_ok (Err e) p go = tt
