-- The close of one node, and what holds of nodes and units behind it.
use Rattle.std.proofs.Common.{◌≡◌, ◌≤◌, ◌<◌, ◌+◌, ◌*◌, ℕ, Bool, true, false, List, [], All, drop, length, replicate, take, Ok, Err, Option, Some, None, Result, slice_get, slice_set, arith, refl, sym, ◌∙◌, subst}
use Rattle.std.proofs.lemmas.Bool.{both_ways}
use Rattle.std.proofs.lemmas.List.{length-replicate}
use Rattle.std.proofs.lemmas.Option.{slice_get_within}
use Rattle.fmi_states.specs.declared.ecu.Ecu.{Ghosts}
use Rattle.fmi_states.specs.declared.phase.Phase.{Phase}
use Rattle.fmi_states.specs.declared.phase.Phase.TheVariants.{Step}
use Rattle.log_specs.specs.Line.{Cause}
use Rattle.session_specs.specs.Outcome.{End, SessionOut}
use Rattle.session_specs.specs.Outcome as session
use Rattle.session_specs.specs.Session.{close_of, end_of_close, phase_behind, termination_calls}
use Rattle.world_specs.specs.Plan.{IsNodePlan, NodePlan}
use Rattle.world_laws.proofs.Lists.{all-more}
use Rattle.world_core.specs.Clocks.{settled}
use Rattle.world_core.specs.Closing.{Shuts, is_live, standing_closed}
use Rattle.world_core.specs.Courses.{Course}
use Rattle.world_core.specs.Held.{IsHeld}
use Rattle.world_core.specs.Kept.{IsInPhase, Pairwise, unused}
use Rattle.world_core.specs.Sitting.{Closed, MayClose}
use Rattle.world_core.specs.Units.{AreApart, states_of}
use Rattle.world_core.specs.declared.standing.Standing.{Standing}
use Rattle.world_core.specs.declared.standing.Standing.TheVariants.{New, Live, Down, Over}
use Rattle.world_core.proofs.Holding.{HasClocks, entries-before, entries-beyond, entries-length, in-phase, map-pair, pair-map, pair-set, unset-behind}
use Rattle.world_core.proofs.Inputs.{at-place}
use Rattle.world_core.proofs.Moved.{state-at}
use Rattle.world_core.proofs.Numbered.{all-at}
use Rattle.world_core.proofs.Placing.{pair-at, unset-at, unset-set}
use Rattle.world_core.proofs.Seating.{same-at, set-length}

-- a close leaves no node live
closed-phase : (end : End) (r : Result (Unit {0}) Cause) → end_of_close r ≡ end → (p : Phase) → p ≡ phase_behind end → IsInPhase (standing_closed end) p
closed-phase session.Live (Ok x) e p h = absurd cc
closed-phase session.Live (Err why) e p h = absurd cc
closed-phase session.Over r e p h = in-phase 0 session.Over p h
closed-phase (session.Down why) r e p h = in-phase 0 (session.Down why) p h

-- a node that is live
module _ {E G S : Type 0} (g : Ghosts E G S) (c : Course) (es : List E) (shared : G) (node : ℕ) (n : NodePlan) (t : Standing) (held : IsHeld g c es shared)
    (here : slice_get c.plan.nodes node ≡ Some n) (standing : slice_get c.standings node ≡ Some t) where
  in-course : node < length c.plan.nodes
  in-course = slice_get_within c.plan.nodes node n here

  pub few-clocks : length n.description.countdown ≤ 8
  few-clocks = all-at (λ (m : NodePlan). length m.description.countdown ≤ 8) c.plan.nodes node n
      (all-more (IsNodePlan (length c.plan.buses)) (λ (m : NodePlan). length m.description.countdown ≤ 8) c.plan.nodes (λ m a q. (q.description).few_clocks) held.plan.nodes) here

  pub entry-room : node * 8 + 8 ≤ length c.clocks
  entry-room = let l = in-course in let k = held.arranged.clocks in omega (arith, l, k)

  in-step : (v : Standing) (p : Phase) → is_live v ≡ true → IsInPhase v p → p ≡ Step
  in-step New p l h = absurd (both_ways false refl l)
  in-step (Live last) p l h = h
  in-step Down p l h = absurd (both_ways false refl l)
  in-step Over p l h = absurd (both_ways false refl l)

  pub may-close : is_live t ≡ true → MayClose g node es shared
  may-close l =
      let i = in-course in
      let u = at-place es node (omega (arith, i, held.each)) in
      let p = pair-at (λ (t : Standing) (e : E). IsInPhase t (g.phase_of (g.state e shared))) node c.standings es t u.item standing u.here held.phases in
      record { state = g.state u.item shared; here = state-at g es shared node u.item u.here; in_step = in-step t (g.phase_of (g.state u.item shared)) l p }

  module _ (live : is_live t ≡ true) (end : End) (es' : List E) (shared' : G) (closed : Closed g node (states_of g es shared) end (states_of g es' shared')) where
    all-cleared : length (replicate (length n.description.countdown) session.Clear) ≡ length n.description.countdown
    all-cleared = length-replicate (length n.description.countdown) session.Clear

    has : (v : Standing) → is_live v ≡ true → HasClocks v
    has New l = tt
    has (Live last) l = tt
    has Down l = absurd (both_ways false refl l)
    has Over l = absurd (both_ways false refl l)

    unset-over : All (λ o. o ≡ None) (take 8 (drop (node * 8) (settled 0 (node * 8) (replicate (length n.description.countdown) session.Clear) c.clocks)))
    unset-over =
        let out : SessionOut = record { emitted = []; dues = replicate (length n.description.countdown) session.Clear; end = session.Over } in
        unset-behind 0 (node * 8) n t closed.state closed.state out c.clocks entry-room few-clocks all-cleared (has t live)
        (unset-at node c.plan.nodes c.standings c.clocks n t here standing held.arranged.unset) session.Over

    unset-shut : (e : End) → All (λ o. o ≡ None) (unused n (standing_closed e) (take 8 (drop (node * 8) (settled 0 (node * 8) (replicate (length n.description.countdown) session.Clear) c.clocks))))
    unset-shut session.Live = unset-over
    unset-shut session.Over = unset-over
    unset-shut (session.Down why) = unset-over

    pub held-shut : AreApart g es' shared' → length es' ≡ length es → IsHeld g (record c {
      standings = slice_set c.standings node (standing_closed end);
      clocks = settled 0 (node * 8) (replicate (length n.description.countdown) session.Clear) c.clocks;
    }) es' shared'
    held-shut apart many = record {
      plan = held.plan;
      arranged = record {
        standings = set-length c.standings node (standing_closed end) ∙ held.arranged.standings;
        clocks = entries-length 0 (node * 8) (length n.description.countdown) (replicate (length n.description.countdown) session.Clear) c.clocks entry-room few-clocks all-cleared session.Over ∙ held.arranged.clocks;
        unset = unset-set node c.plan.nodes c.standings c.clocks (settled 0 (node * 8) (replicate (length n.description.countdown) session.Clear) c.clocks) n (standing_closed end) here
            (entries-before 0 (node * 8) (length n.description.countdown) (replicate (length n.description.countdown) session.Clear) c.clocks entry-room few-clocks all-cleared session.Over)
            (entries-beyond 0 (node * 8) (length n.description.countdown) (replicate (length n.description.countdown) session.Clear) c.clocks entry-room few-clocks all-cleared session.Over)
            (unset-shut end) held.arranged.unset;
      };
      each = many ∙ held.each;
      phases =
          let P : Standing → S → Type 0 = λ t s. IsInPhase t (g.phase_of s) in
          let after : S = (close_of g.answer closed.state).1 in
          map-pair P (λ e. g.state e shared') (slice_set c.standings node (standing_closed end)) es'
          (subst (Pairwise P (slice_set c.standings node (standing_closed end))) (sym closed.behind)
          (pair-set P node c.standings (states_of g es shared) (standing_closed end) after
          (closed-phase end (termination_calls g.answer closed.state).0 closed.came (g.phase_of after) closed.phase)
          (pair-map P (λ e. g.state e shared) c.standings es held.phases)));
      apart = apart;
    }

-- what a close or none leaves, of the node that stands there
module _ {E G S : Type 0} (g : Ghosts E G S) (node : ℕ) (n : NodePlan) (t : Standing) (q : Bool) (end : Option End) (c c' after : Course) (ss states : List S)
    (view : c ≡ c') (here : slice_get c.plan.nodes node ≡ Some n) (standing : slice_get c.standings node ≡ Some t) (is : q ≡ is_live t) where
  pub shuts-at : Shuts g node n q end c after ss states → (m : NodePlan) (u : Standing) → slice_get c'.plan.nodes node ≡ Some m → slice_get c'.standings node ≡ Some u
      → Shuts g node m (is_live u) end c' after ss states
  shuts-at h =
      subst (λ (c' : Course). (m : NodePlan) (u : Standing) → slice_get c'.plan.nodes node ≡ Some m → slice_get c'.standings node ≡ Some u → Shuts g node m (is_live u) end c' after ss states) view
      (λ m u a b.
      subst (λ k. Shuts g node k (is_live u) end c after ss states) (same-at c.plan.nodes node n m here a)
      (subst (λ v. Shuts g node n (is_live v) end c after ss states) (same-at c.standings node t u standing b)
      (subst (λ r. Shuts g node n r end c after ss states) is h)))
