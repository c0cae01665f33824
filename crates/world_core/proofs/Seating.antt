-- The session of one node of a network: what it may be given, and what holds of the network behind it.
use Rattle.std.proofs.Common.{◌≡◌, ◌≤◌, ◌<◌, ◌+◌, ◌*◌, ◌^◌, ℕ, zero, suc, true, List, [], ◌∷◌, All, drop, length, map, Option, Some, None, slice_get, slice_set, arith, refl, sym, ap, ◌∙◌, subst}
use Rattle.std.proofs.lemmas.List.{length-map}
use Rattle.std.proofs.lemmas.List.Elements.{All-cons, All-head, All-tail}
use Rattle.std.proofs.lemmas.Option.{slice_get_within}
use Rattle.fmi_states.specs.declared.ecu.Ecu.{Ghosts}
use Rattle.fmi_states.specs.declared.phase.Phase.{Phase}
use Rattle.fmi_states.specs.declared.phase.Phase.TheVariants.{Step}
use Rattle.bus_specs.specs.Bus.{Bus}
use Rattle.bus_specs.specs.Sound.{Sound}
use Rattle.unit_specs.specs.Description.{Description}
use Rattle.session_specs.specs.Outcome.{End, SessionIn, SessionOut}
use Rattle.session_specs.specs.Outcome as session
use Rattle.session_specs.specs.Session.{can_begin, is_fresh, session_of}
use Rattle.session_laws.proofs.Changes.{session_changes}
use Rattle.world_specs.specs.Plan.{NodePlan, IsNodePlan}
use Rattle.world_core.specs.Called.{call_of, input_at}
use Rattle.world_core.specs.Courses.{Course, plan_of_bus}
use Rattle.world_core.specs.Held.{IsHeld, LastIsBy, LastsAreBy}
use Rattle.world_core.specs.Kept.{IsInPhase, Pairwise}
use Rattle.world_core.specs.Settled.{entries_behind, standing_behind}
use Rattle.world_core.specs.Sits.{Sits}
use Rattle.world_core.specs.Sitting.{IsInput, MaySit, Sat}
use Rattle.world_core.specs.Units.{AreApart, states_of}
use Rattle.world_core.specs.declared.sessions.Call.{Call}
use Rattle.world_core.specs.declared.turns.Turn.{Turn}
use Rattle.world_core.specs.declared.standing.Standing.{Standing}
use Rattle.world_core.specs.declared.standing.Standing.TheVariants.{New, Live, Down, Over}
use Rattle.world_core.proofs.Holding.{HasClocks, entries-before, entries-beyond, entries-length, in-phase, map-pair, pair-map, pair-set, unset-behind}
use Rattle.world_core.proofs.Inputs.{at-place, call-input}
use Rattle.world_core.proofs.Moved.{state-at}
use Rattle.world_core.proofs.Numbered.{all-at, numbered}
use Rattle.world_core.proofs.Placing.{pair-at, unset-at, unset-set}

-- ---- lists

pub set-length : {X : Type 0} (xs : List X) (i : ℕ) (x : X) → length (slice_set xs i x) ≡ length xs
set-length [] i x = refl
set-length (y ∷ ys) zero x = refl
set-length (y ∷ ys) (suc i) x = ap suc (set-length ys i x)

all-set : {X : Type 0} (P : X → Type 0) (xs : List X) (i : ℕ) (x : X) → P x → All P xs → All P (slice_set xs i x)
all-set P [] i x p h = h
all-set P (y ∷ ys) zero x p h = All-cons P x ys p (All-tail P y ys h)
all-set P (y ∷ ys) (suc i) x p h = All-cons P y (slice_set ys i x) (All-head P y ys h) (all-set P ys i x p (All-tail P y ys h))

-- ---- standings

lasts-now : (now : ℕ) (e : End) → LastIsBy now (standing_behind now e)
lasts-now now session.Live = omega arith
lasts-now now session.Over = tt
lasts-now now (session.Down why) = tt

pub lasts-behind : (now node : ℕ) (e : End) (t : Standing) (ts : List Standing) → t ≡ standing_behind now e → LastsAreBy now ts → LastsAreBy now (slice_set ts node t)
lasts-behind now node e t ts s h = all-set (LastIsBy now) ts node t (subst (LastIsBy now) (sym s) (lasts-now now e)) h

-- ---- who is called

pub not-some : (o : Option Call) → ((x : Call) → o ≡ Some x → ⊥) → o ≡ None
not-some None h = refl
not-some (Some x) h = absurd (h x refl)

module _ (bs : List Bus) (resolution now node : ℕ) (n : NodePlan) (cs : List (Option ℕ)) (call : Call) where
  pub has-clocks : (t : Standing) → Some call ≡ call_of bs resolution now node n t cs → HasClocks t
  has-clocks New e = tt
  has-clocks (Live last) e = tt
  has-clocks Down e = absurd cc
  has-clocks Over e = absurd cc

  begins : (t : Standing) (p : Phase) → IsInPhase t p → Some call ≡ call_of bs resolution now node n t cs → can_begin p ≡ true
  begins New p h e = rw h refl
  begins (Live last) p h e = rw h refl
  begins Down p h e = absurd cc
  begins Over p h e = absurd cc

  none-ticked : (t : Standing) (p : Phase) → IsInPhase t p → Some call ≡ call_of bs resolution now node n t cs → is_fresh p ≡ true → call.input.ticked ≡ []
  none-ticked New p h e f =
      let made : Call = record { is_new = true; input = input_at bs resolution now node n 0 [] } in
      let same : call ≡ made = cc in
      ap (λ (c : Call). c.input.ticked) same
  none-ticked (Live last) p h e f = absurd (let z : is_fresh Step ≡ true = subst (λ q. is_fresh q ≡ true) h f in cc)
  none-ticked Down p h e f = absurd cc
  none-ticked Over p h e f = absurd cc

-- ---- the session of one

module _ {E G S : Type 0} (g : Ghosts E G S) where
  -- a change for each clock
  pub dues-each : (d : Description) (input : SessionIn) (node : ℕ) (ss : List S) (out : SessionOut) (after : List S) → Sat g d input node ss out after → length out.dues ≡ length d.countdown
  dues-each d input node ss out after h = subst (λ (o : SessionOut). length o.dues ≡ length d.countdown) h.came (session_changes g.answer g.phase_of d input h.state).each

module _ {E G S : Type 0} (g : Ghosts E G S) (c : Course) (es : List E) (shared : G) (now node : ℕ) (n : NodePlan) (t : Standing) (call : Call)
    (made : c.plan.buses ≡ map plan_of_bus c.buses) (held : IsHeld g c es shared) (here : slice_get c.plan.nodes node ≡ Some n) (standing : slice_get c.standings node ≡ Some t)
    (is : Some call ≡ call_of c.buses c.plan.resolution now node n t (drop (node * 8) c.clocks)) where
  inside : node < length c.plan.nodes
  inside = slice_get_within c.plan.nodes node n here

  plan-at : IsNodePlan (length c.buses) n
  plan-at =
      let many : length c.plan.buses ≡ length c.buses = ap length made ∙ length-map c.buses plan_of_bus in
      subst (λ m. IsNodePlan m n) many (all-at (IsNodePlan (length c.plan.buses)) c.plan.nodes node n held.plan.nodes here)

  pub may-sit : MaySit g call.input node es shared
  may-sit =
      let l = inside in
      let u = at-place es node (omega (arith, l, held.each)) in
      let p = pair-at (λ (t : Standing) (e : E). IsInPhase t (g.phase_of (g.state e shared))) node c.standings es t u.item standing u.here held.phases in
      record {
        state = g.state u.item shared;
        here = state-at g es shared node u.item u.here;
        begins = begins c.buses c.plan.resolution now node n (drop (node * 8) c.clocks) call t (g.phase_of (g.state u.item shared)) p is;
        first = none-ticked c.buses c.plan.resolution now node n (drop (node * 8) c.clocks) call t (g.phase_of (g.state u.item shared)) p is;
      }

  pub input-fits : All Sound c.buses → now ≤ 2 ^ 62 → LastsAreBy now c.standings → IsInput n.description call.input
  input-fits sound early last =
      call-input c.buses c.plan.resolution now node n (numbered c.plan c.buses held.plan made) sound early plan-at t (drop (node * 8) c.clocks) call
      (all-at (LastIsBy now) c.standings node t last standing) is

  module _ (out : SessionOut) (es' : List E) (shared' : G) (sat : Sat g n.description call.input node (states_of g es shared) out (states_of g es' shared')) where
    few : length n.description.countdown ≤ 8
    few = let p = plan-at in p.description.few_clocks

    each : length out.dues ≡ length n.description.countdown
    each = dues-each g n.description call.input node (states_of g es shared) out (states_of g es' shared') sat

    room : node * 8 + 8 ≤ length c.clocks
    room = let l = inside in let k = held.arranged.clocks in omega (arith, l, k)

    entries : List (Option ℕ)
    entries = entries_behind now (node * 8) (length n.description.countdown) out.end out.dues c.clocks

    pub held-behind : AreApart g es' shared' → length es' ≡ length es
        → IsHeld g (record c {
          standings = slice_set c.standings node (standing_behind now out.end);
          clocks = entries_behind now (node * 8) (length n.description.countdown) out.end out.dues c.clocks;
        }) es' shared'
    held-behind apart many = record {
      plan = held.plan;
      arranged = record {
        standings = set-length c.standings node (standing_behind now out.end) ∙ held.arranged.standings;
        clocks = entries-length now (node * 8) (length n.description.countdown) out.dues c.clocks room few each out.end ∙ held.arranged.clocks;
        unset = unset-set node c.plan.nodes c.standings c.clocks (entries_behind now (node * 8) (length n.description.countdown) out.end out.dues c.clocks) n (standing_behind now out.end) here
            (entries-before now (node * 8) (length n.description.countdown) out.dues c.clocks room few each out.end)
            (entries-beyond now (node * 8) (length n.description.countdown) out.dues c.clocks room few each out.end)
            (unset-behind now (node * 8) n t sat.state sat.state out c.clocks room few each
            (has-clocks c.buses c.plan.resolution now node n (drop (node * 8) c.clocks) call t is)
            (unset-at node c.plan.nodes c.standings c.clocks n t here standing held.arranged.unset) out.end)
            held.arranged.unset;
      };
      each = many ∙ held.each;
      phases =
          let P : Standing → S → Type 0 = λ t s. IsInPhase t (g.phase_of s) in
          let after : S = (session_of g.answer g.phase_of n.description call.input sat.state).1 in
          map-pair P (λ e. g.state e shared') (slice_set c.standings node (standing_behind now out.end)) es'
          (subst (Pairwise P (slice_set c.standings node (standing_behind now out.end))) (sym sat.behind)
          (pair-set P node c.standings (states_of g es shared) (standing_behind now out.end) after (in-phase now out.end (g.phase_of after) sat.phase)
          (pair-map P (λ e. g.state e shared) c.standings es held.phases)));
      apart = apart;
    }

-- a course whose standings and entries changed
pub settled-course : (c : Course) (ts ts' : List Standing) (cs cs' : List (Option ℕ)) → ts ≡ ts' → cs ≡ cs' → record c { standings = ts; clocks = cs } ≡ record c { standings = ts'; clocks = cs' }
settled-course c ts ts' cs cs' x y = rw (x, y) refl

pub same-at : {X : Type 0} (xs : List X) (i : ℕ) (a b : X) → slice_get xs i ≡ Some a → slice_get xs i ≡ Some b → a ≡ b
same-at xs i a b p q = let z : Some a ≡ Some b = sym p ∙ q in cc

-- what a session or none leaves, of the node that stands there
module _ {E G S : Type 0} (g : Ghosts E G S) (now node : ℕ) (n : NodePlan) (t : Standing) (o : Option Call) (turn : Option Turn) (c c' after : Course) (ss states : List S)
    (view : c ≡ c') (here : slice_get c.plan.nodes node ≡ Some n) (standing : slice_get c.standings node ≡ Some t)
    (is : o ≡ call_of c.buses c.plan.resolution now node n t (drop (node * 8) c.clocks)) where
  pub sits-at : Sits g now node n o turn c after ss states → (m : NodePlan) (u : Standing) → slice_get c'.plan.nodes node ≡ Some m → slice_get c'.standings node ≡ Some u
      → Sits g now node m (call_of c'.buses c'.plan.resolution now node m u (drop (node * 8) c'.clocks)) turn c' after ss states
  sits-at h =
      subst (λ (c' : Course). (m : NodePlan) (u : Standing) → slice_get c'.plan.nodes node ≡ Some m → slice_get c'.standings node ≡ Some u
      → Sits g now node m (call_of c'.buses c'.plan.resolution now node m u (drop (node * 8) c'.clocks)) turn c' after ss states) view
      (λ m u a b.
      subst (λ k. Sits g now node k (call_of c.buses c.plan.resolution now node k u (drop (node * 8) c.clocks)) turn c after ss states) (same-at c.plan.nodes node n m here a)
      (subst (λ v. Sits g now node n (call_of c.buses c.plan.resolution now node n v (drop (node * 8) c.clocks)) turn c after ss states) (same-at c.standings node t u standing b)
      (subst (λ q. Sits g now node n q turn c after ss states) is h)))
