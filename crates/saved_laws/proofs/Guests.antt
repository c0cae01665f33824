-- What the calls of a session keep of a guest, and so each session of the units of a plan.
use Rattle.std.proofs.Common.{◌≡◌, ◌≤◌, ℕ, true, List, [], ◌∷◌, Option, None, Some, slice_get}
use Rattle.std.proofs.Common.{arith, refl, sym, ap, subst, ◌∙◌}
use Rattle.std.specs.Prelude.{IsTrue}
use Rattle.fmi_states.specs.declared.phase.Phase.{Phase}
use Rattle.fmi_states.specs.declared.phase.Phase.TheVariants.{Step}
use Rattle.fmi_states.specs.declared.call.Call.{Call}
use Rattle.fmi_states.specs.Phase.{is_permitted, next_phase}
use Rattle.wasm_types.specs.declared.module.Limits.{Limits}
use Rattle.wasm_types.specs.Modules.{NestedModule}
use Rattle.code_specs.specs.Stores.{pages, pages_within, greatest_pages}
use Rattle.wasm_machine.specs.Making.{suits}
use Rattle.unit_specs.specs.Description.{Description}
use Rattle.session_specs.specs.Outcome.{SessionIn, SessionOut}
use Rattle.session_specs.specs.Outcome as session
use Rattle.session_specs.specs.Session.{session_of, can_begin, phase_behind}
use Rattle.session_specs.specs.Exchanges.{Exchange, IsRun, session_calls}
use Rattle.session_laws.proofs.Whole.{calls_run, stands}
use Rattle.binding_specs.specs.Guests.{Guest}
use Rattle.binding_specs.specs.Answers.{answer}
use Rattle.binding_laws.specs.Words.{HasArea}
use Rattle.binding_laws.proofs.Sound.{phase_moves}
use Rattle.binding_laws.proofs.Steady.{same_code, same_description, same_budget}
use Rattle.world_specs.specs.Plan.{Plan, description_of, session_in, units_of}
use Rattle.saved_specs.specs.Fit.{IsSuited}
use Rattle.guest_laws.specs.Words.{Begins, IsPlaced}
use Rattle.guest_laws.proofs.Stores.{StoreSuits, to-suits, from-suits, store-stays}
use Rattle.guest_laws.proofs.Placed.{in-any, call-area}
use Rattle.saved_laws.specs.Words.{KeepsSuited}

abbrev phase_of : Guest → Phase
phase_of g = g.phase

record Holds (fresh g : Guest) : Type 0 where
  code : g.code ≡ fresh.code
  description : g.description ≡ fresh.description
  budget : g.budget ≡ fresh.budget
  store : StoreSuits g.code g.store
  area : IsPlaced g.phase g

-- ---- one call

call-holds : (fresh g : Guest) (c : Call) → IsTrue (is_permitted g.phase c) → Holds fresh g → Holds fresh (answer g c).1
call-holds fresh g c may h = record {
  code = same_code g c ∙ h.code;
  description = same_description g c ∙ h.description;
  budget = same_budget g c ∙ h.budget;
  store = subst (λ (m : NestedModule). StoreSuits m (answer g c).1.store) (sym (same_code g c)) (store-stays g c h.store);
  area = call-area g c g.phase may h.area;
}

-- ---- a session

run-holds : (fresh s : Guest) (xs : List Exchange) (t : Guest) → IsRun answer phase_of s xs t → Holds fresh s → Holds fresh t
run-holds fresh s [] t r h = subst (Holds fresh) r h
run-holds fresh s (x ∷ xs) t r h = run-holds fresh (answer s x.call).1 xs t r.2 (call-holds fresh s x.call r.0 h)

-- ---- and what it comes to

most : (m : NestedModule) → greatest_pages m ≤ 65536
most m = go (slice_get m.memories 0) refl
  where
    within : (o : Option ℕ) → pages_within o ≤ 65536
    within None = omega arith
    within (Some n) = omega arith

    go : (o : Option Limits) → slice_get m.memories 0 ≡ o → greatest_pages m ≤ 65536
    go None e = rw e (omega arith)
    go (Some l) e = rw e (within l.max)

rebuilt : (fresh g : Guest) → g.code ≡ fresh.code → g.description ≡ fresh.description → g.budget ≡ fresh.budget → g.phase ≡ Step
    → g ≡ record fresh { phase = Step; area = g.area; store = g.store }
rebuilt fresh g c d b p = ap (λ (x : NestedModule). record g { code = x }) c
    ∙ ap (λ (x : Description). record g { code = fresh.code; description = x }) d
    ∙ ap (λ (x : ℕ). record g { code = fresh.code; description = fresh.description; budget = x }) b
    ∙ ap (λ (x : Phase). record fresh { phase = x; area = g.area; store = g.store }) p

suited : (fresh g : Guest) → g.phase ≡ Step → Holds fresh g → IsSuited fresh g
suited fresh g p h =
    let area : HasArea g = subst (λ (ph : Phase). IsPlaced ph g) p h.area in
    let whole = h.store.whole in
    let high = h.store.most in
    let all = most g.code in
    record {
      same = rebuilt fresh g h.code h.description h.budget p;
      store = subst (λ (m : NestedModule). suits m (pages g.store) g.store.bytes g.store.globals ≡ true) h.code
          (to-suits g.code g.store h.store);
      area = area;
      address = omega (arith, area, whole, high, all);
    }

begins : (fresh : Guest) → Begins fresh → Holds fresh fresh
begins fresh h = record {
  code = refl;
  description = refl;
  budget = refl;
  store = from-suits fresh.code (pages fresh.store) fresh.store h.store;
  area = subst (λ (ph : Phase). IsPlaced ph fresh) (sym h.phase) tt;
}

goes-on : (fresh g : Guest) → IsSuited fresh g → Holds fresh g
goes-on fresh g h =
    let code : g.code ≡ fresh.code = ap (λ (g : Guest). g.code) h.same in record {
      code = code;
      description = ap (λ (g : Guest). g.description) h.same;
      budget = ap (λ (g : Guest). g.budget) h.same;
      store = subst (λ (m : NestedModule). StoreSuits m g.store) (sym code) (from-suits fresh.code (pages g.store) g.store h.store);
      area = in-any g.phase g h.area;
    }

session-suited : (fresh s : Guest) (d : Description) (input : SessionIn) → can_begin s.phase ≡ true → Holds fresh s
    → ((session_of answer phase_of d input s).0).end ≡ session.Live → IsSuited fresh (session_of answer phase_of d input s).1
session-suited fresh s d input may h e =
    let moves : (s : Guest) (c : Call) → IsTrue (is_permitted (phase_of s) c)
    → phase_of (answer s c).1 ≡ next_phase (phase_of s) c (answer s c).0
    = λ s c may. phase_moves s c in
    suited fresh (session_of answer phase_of d input s).1
    (stands answer phase_of moves d input s may ∙ ap phase_behind e)
    (run-holds fresh s (session_calls answer phase_of d input s) (session_of answer phase_of d input s).1
    (calls_run answer phase_of moves d input s may) h)

pub keep-suited : (p : Plan) (guests : List Guest) → ((node : ℕ) (fresh : Guest) → slice_get guests node ≡ Some fresh → Begins fresh)
    → KeepsSuited guests (units_of answer (λ g. g.phase) p)
keep-suited p guests h = record {
  first = λ node fresh g own e. let b = h node fresh own in
      session-suited fresh fresh (description_of p node) (session_in p.resolution (description_of p node) g)
      (ap can_begin b.phase) (begins fresh b) e;
  later = λ node fresh s g own k e.
      session-suited fresh s (description_of p node) (session_in p.resolution (description_of p node) g)
      (ap can_begin (ap (λ (g : Guest). g.phase) k.same)) (goes-on fresh s k) e;
}
