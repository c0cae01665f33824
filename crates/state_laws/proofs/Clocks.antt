-- The clocks of a node: a session sets them little behind its moment, so they tick by a moment little behind the stop.
use Rattle.std.proofs.Common.{◌≡◌, ◌≤◌, ℕ, ◌+◌, ◌^◌, Bool, true, false, if◌then◌else◌, List, [], ◌∷◌, Option, Some, None, IfSome, All}
use Rattle.std.proofs.Common.{arith, refl, subst, inl, inr}
use Rattle.fmi_states.specs.declared.phase.Phase.{Phase}
use Rattle.fmi_states.specs.declared.call.Call.{Call}
use Rattle.fmi_states.specs.declared.reply.Reply.{Reply}
use Rattle.session_specs.specs.Outcome.{SessionOut, DueChange, Keep, Clear, At, End}
use Rattle.session_specs.specs.Outcome as session
use Rattle.session_laws.specs.Laws.{IsAhead}
use Rattle.session_laws.proofs.Changes.{session_changes}
use Rattle.bus_specs.specs.Bus.{Bus}
use Rattle.bus_sound.proofs.Among.{Among}
use Rattle.bus_sound.proofs.Lists.{All-each, each-All}
use Rattle.world_specs.specs.Units.{Units}
use Rattle.world_specs.specs.World.{Node, Standing, New, Live, Down, Over}
use Rattle.world_specs.specs.Sessions.{ticks, takes_part, given_to, session_from, clock_after, clocks_after, clocks_of, standing_after}
use Rattle.world_specs.specs.Sessions.{node_behind, node_after}
use Rattle.world_specs.specs.Plan.{Plan, description_of, session_in, units_of}
use Rattle.world_laws.proofs.Lists.{of-recursion}
use Rattle.state_laws.specs.Words.{IsSetBy, SetsWithin, ClocksBy}

-- ---- the units of a plan

ahead-by : (moment : ℕ) (d : DueChange) → IsAhead moment d → IsSetBy (moment + 2 ^ 62) d
ahead-by moment Keep h = tt
ahead-by moment Clear h = tt
ahead-by moment (At due) h = h.1

pub units-near : {S : Type 0} (answer : S → Call → Reply × S) (phase_of : S → Phase) (p : Plan)
    → SetsWithin (2 ^ 62) (units_of answer phase_of p)
units-near answer phase_of p = record {
  clocks = λ node g s. let d = description_of p node in
      let h = (session_changes answer phase_of d (session_in p.resolution d g) s).ahead in
      All-each (IsSetBy (g.moment + 2 ^ 62)) _ (λ c a. ahead-by g.moment c (of-recursion (IsAhead g.moment) _ c h a));
}

-- ---- the clocks of one node

module _ (limit t : ℕ) where
  abbrev By : Option ℕ → Type 0
  By c = IfSome c (λ due. due ≤ limit)

  clock-by : (d : DueChange) (c : Option ℕ) → IsSetBy limit d → By c → By (clock_after t d c)
  clock-by Keep c s h = go (ticks t c)
    where
      go : (q : Bool) → By (if q then None else c)
      go true = tt
      go false = h
  clock-by Clear c s h = tt
  clock-by (At due) c s h = s

  clocks-by : (ds : List DueChange) (cs : List (Option ℕ)) → ((d : DueChange) → Among ds d → IsSetBy limit d)
      → ((c : Option ℕ) → Among cs c → By c)
      → (c : Option ℕ) → Among (clocks_after t ds cs) c → By c
  clocks-by [] cs s h c a = absurd a
  clocks-by (d ∷ ds) [] s h c (inl e) = subst (λ c. By c) e (clock-by d None (s d (inl refl)) tt)
  clocks-by (d ∷ ds) [] s h c (inr a) = clocks-by ds [] (λ x b. s x (inr b)) (λ x b. absurd b) c a
  clocks-by (d ∷ ds) (x ∷ cs) s h c (inl e) = subst (λ c. By c) e (clock-by d x (s d (inl refl)) (h x (inl refl)))
  clocks-by (d ∷ ds) (x ∷ cs) s h c (inr a) = clocks-by ds cs (λ y b. s y (inr b)) (λ y b. h y (inr b)) c a

  own-clocks : {S : Type 0} (s : Standing S) → ClocksBy limit s → (c : Option ℕ) → Among (clocks_of s) c → By c
  own-clocks (New s) h c a = absurd a
  own-clocks (Live s last clocks) h c a = each-All (λ c. IfSome c (λ due. due ≤ limit)) clocks c h a
  own-clocks Down h c a = absurd a
  own-clocks Over h c a = absurd a

  module _ {S : Type 0} (span : ℕ) (near : t + span ≤ limit) (u : Units S) (sets : SetsWithin span u) (bs : List Bus) (n : Node S) where
    up : (d : DueChange) → IsSetBy (t + span) d → IsSetBy limit d
    up Keep h = tt
    up Clear h = tt
    up (At due) h = omega (arith, near, h)

    sets-by : (s : Standing S) (r : SessionOut × S) → session_from u bs t n s ≡ Some r → (d : DueChange) → Among (r.0).dues d
        → IsSetBy limit d
    sets-by (New s) r e d a = let g = given_to bs t n 0 [] in
        let q : u.session n.number g s ≡ r = cc in
        up d (each-All (IsSetBy (t + span)) (r.0).dues d
        (subst (λ (p : SessionOut × S). All (IsSetBy (t + span)) (p.0).dues) q (sets.clocks n.number g s)) a)
    sets-by (Live s last clocks) r e d a = let g = given_to bs t n last clocks in
        let q : u.session n.number g s ≡ r = cc in
        up d (each-All (IsSetBy (t + span)) (r.0).dues d
        (subst (λ (p : SessionOut × S). All (IsSetBy (t + span)) (p.0).dues) q (sets.clocks n.number g s)) a)
    sets-by Down r e d a = absurd cc
    sets-by Over r e d a = absurd cc

    by-end : (out : SessionOut) (state : S) (e : End) → ((d : DueChange) → Among out.dues d → IsSetBy limit d) → ClocksBy limit n.standing
        → ClocksBy limit (standing_after t out state n.standing e)
    by-end out state session.Live s h = All-each (λ c. IfSome c (λ due. due ≤ limit)) (clocks_after t out.dues (clocks_of n.standing))
        (clocks-by out.dues (clocks_of n.standing) s (own-clocks n.standing h))
    by-end out state session.Over s h = tt
    by-end out state (session.Down cause) s h = tt

    pub node-by : ClocksBy limit n.standing → ClocksBy limit (node_after u bs t n).standing
    node-by h = part (takes_part bs t n)
      where
        ran : (o : Option (SessionOut × S)) → session_from u bs t n n.standing ≡ o → ClocksBy limit (node_behind t n o).standing
        ran None e = h
        ran (Some r) e = by-end r.0 r.1 (r.0).end (sets-by n.standing r e) h

        part : (q : Bool) → ClocksBy limit (node_behind t n (if q then session_from u bs t n n.standing else None)).standing
        part true = ran (session_from u bs t n n.standing) refl
        part false = h
