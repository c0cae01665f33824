-- Moments never fall: what is still to happen isn't before the last event.
use Rattle.std.proofs.Common.{◌≡◌, ◌≤◌, ◌<◌, ℕ, ◌==◌, ◌⊎◌, Bool, true, false, if◌then◌else◌, List, [], ◌∷◌, filter_map, Option, Some, None, IfSome, All, is_some, arith, sym, refl, ap, ◌∙◌, subst, inl, inr}
use Rattle.std.proofs.lemmas.Bool.{both_ways}
use Rattle.session_specs.specs.Outcome.{SessionOut, DueChange, Keep, Clear, At, End}
use Rattle.session_specs.specs.Outcome as session
use Rattle.bus_specs.specs.Bus.{Bus}
use Rattle.bus_specs.specs.Start.{start}
use Rattle.bus_specs.specs.Finish.{finish, recover}
use Rattle.bus_specs.specs.Due.{Due, dues, next_due, precedes as due_precedes, rank as due_rank}
use Rattle.bus_specs.specs.InTime.{InTime}
use Rattle.run_specs.specs.Run.{behind}
use Rattle.bus_sound.proofs.Among.{Among, filter_map-among, among-filter_map}
use Rattle.bus_sound.proofs.Lists.{All-each, each-All, map-among, among-map}
use Rattle.bus_sound.proofs.Orders.{foremost-some, foremost-among, foremost-unbeaten}
use Rattle.bus_sound.proofs.Dues.{not-before, precedes-order}
use Rattle.bus_sound.proofs.Timed.{enter-in-time, submit-in-time, take-in-time, leave-in-time, start-in-time, finish-in-time, recover-in-time, next-in-time}
use Rattle.bus_sound.proofs.Later.{later}
use Rattle.world_specs.specs.Units.{Units}
use Rattle.world_specs.specs.World.{World, Node, Standing, New, Live, Down, Over, opening}
use Rattle.world_specs.specs.Next.{What, Finish, Return, Sessions, Start, Event, at, event_of, of_standing, enabled, next_event}
use Rattle.world_specs.specs.Sessions.{turns, ticks, given_to, session_from, takes_part, clock_after, clocks_after, clocks_of, standing_after, node_behind, node_after}
use Rattle.world_specs.specs.Step.{outcome_of, world_behind}
use Rattle.world_specs.specs.Network.{network}
use Rattle.world_specs.specs.Fits.{IsSetBehind, UnitsFit, ClocksFrom}
use Rattle.world_laws.specs.Words.{NothingIsLate}
use Rattle.world_laws.proofs.Lists.{all-map}
use Rattle.world_laws.proofs.Order.{no-earlier, next-among, next-unbeaten}
use Rattle.world_laws.proofs.Sources.{Source, OfBus, OfMail, OfNode, source, due-enabled, node-enabled}
use Rattle.world_laws.proofs.OneBus.{bus_behind, each-bus, Kept, turns-kept}
use Rattle.world_laws.proofs.Changed.{along}

-- ---- one bus

-- nothing that is due is past
pub due-from : (now : ℕ) (b : Bus) (d : Due) → InTime now b → Among (dues b now b.running) d → now ≤ d.moment
unfolding next_due
due-from now b d h a = go (next_due b now) refl
  where
    order : (c : Due) → (c.moment < d.moment) ⊎ ((c.moment ≡ d.moment) × (due_rank c.what ≤ due_rank d.what)) → now ≤ c.moment → now ≤ d.moment
    order c (inl l) k = omega (arith, l, k)
    order c (inr l) k = omega (arith, l.0, k)

    go : (o : Option Due) → next_due b now ≡ o → now ≤ d.moment
    go None e = absurd (both_ways false refl (sym (ap is_some e) ∙ foremost-some due_precedes (dues b now b.running) d a))
    go (Some c) e = order c (not-before d c (foremost-unbeaten due_precedes precedes-order (dues b now b.running) c d e a)) (next-in-time now b c h e)

-- a bus on which nothing is due before a moment may be at that moment
pub moved : (b : Bus) (now t : ℕ) → ((d : Due) → Among (dues b now b.running) d → t ≤ d.moment) → InTime t b
unfolding next_due
moved b now t h = later b now t (go (next_due b now) refl)
  where
    go : (o : Option Due) → next_due b now ≡ o → IfSome o (λ d. t ≤ d.moment)
    go None e = tt
    go (Some d) e = h d (foremost-among due_precedes (dues b now b.running) d e)

in-time-kept : (t : ℕ) → Kept t (InTime t)
in-time-kept t = record {
  enter = λ b node h. enter-in-time t b node h;
  take = λ b node h. take-in-time t b node h;
  submit = λ b node what h. submit-in-time t b node what h;
  leave = λ b node h. leave-in-time t b node h;
}

pub bus-in-time : {S : Type 0} (u : Units S) (w : World S) (t : ℕ) (k : What) (b : Bus) → InTime t b → InTime t (bus_behind u w t k b)
bus-in-time u w t (Finish bus) b h = go (b.setup.number == bus)
  where
    go : (q : Bool) → InTime t (if q then (finish b t).0 else b)
    go true = finish-in-time t b h
    go false = h
bus-in-time u w t (Return bus node) b h = go (b.setup.number == bus)
  where
    go : (q : Bool) → InTime t (if q then (recover b t node).0 else b)
    go true = recover-in-time t b node h
    go false = h
bus-in-time u w t Sessions b h = turns-kept t (InTime t) (in-time-kept t) (turns u w.buses t w.nodes) b h
bus-in-time u w t (Start bus) b h = go (b.setup.number == bus)
  where
    go : (q : Bool) → InTime t (if q then (start b t).0 else b)
    go true = start-in-time t b h
    go false = h

-- ---- the clocks of one node

-- a clock that is due at a moment or behind it, and one that is due behind it
abbrev pub ClockFrom : ℕ → Option ℕ → Type 0
ClockFrom t c = IfSome c (λ due. t ≤ due)

module _ (t : ℕ) where
  clock-from : (d : DueChange) (c : Option ℕ) → IsSetBehind t d → ClockFrom t c → ClockFrom t (clock_after t d c)
  clock-from Keep c s h = go (ticks t c)
    where
      go : (q : Bool) → ClockFrom t (if q then None else c)
      go true = tt
      go false = h
  clock-from Clear c s h = tt
  clock-from (At due) c s h = omega (arith, s)

  clocks-from : (ds : List DueChange) (cs : List (Option ℕ)) → ((d : DueChange) → Among ds d → IsSetBehind t d) → ((c : Option ℕ) → Among cs c → ClockFrom t c)
      → (c : Option ℕ) → Among (clocks_after t ds cs) c → ClockFrom t c
  clocks-from [] cs s h c a = absurd a
  clocks-from (d ∷ ds) [] s h c (inl e) = subst (ClockFrom t) e (clock-from d None (s d (inl refl)) tt)
  clocks-from (d ∷ ds) [] s h c (inr a) = clocks-from ds [] (λ x b. s x (inr b)) (λ x b. absurd b) c a
  clocks-from (d ∷ ds) (x ∷ cs) s h c (inl e) = subst (ClockFrom t) e (clock-from d x (s d (inl refl)) (h x (inl refl)))
  clocks-from (d ∷ ds) (x ∷ cs) s h c (inr a) = clocks-from ds cs (λ y b. s y (inr b)) (λ y b. h y (inr b)) c a

  own-clocks : {S : Type 0} (s : Standing S) → ClocksFrom t s → (c : Option ℕ) → Among (clocks_of s) c → ClockFrom t c
  own-clocks (New s) h c a = absurd a
  own-clocks (Live s last clocks) h c a = each-All (ClockFrom t) clocks c h a
  own-clocks Down h c a = absurd a
  own-clocks Over h c a = absurd a

  module _ {S : Type 0} (u : Units S) (fit : UnitsFit u) (bs : List Bus) (n : Node S) where
    pub sets-behind : (s : Standing S) (r : SessionOut × S) → session_from u bs t n s ≡ Some r → (d : DueChange) → Among (r.0).dues d → IsSetBehind t d
    sets-behind (New s) r e d a = let g = given_to bs t n 0 [] in
        let q : u.session n.number g s ≡ r = cc in
        each-All (IsSetBehind t) (r.0).dues d (subst (λ (p : SessionOut × S). All (IsSetBehind t) (p.0).dues) q (fit.clocks n.number g s)) a
    sets-behind (Live s last clocks) r e d a = let g = given_to bs t n last clocks in
        let q : u.session n.number g s ≡ r = cc in
        each-All (IsSetBehind t) (r.0).dues d (subst (λ (p : SessionOut × S). All (IsSetBehind t) (p.0).dues) q (fit.clocks n.number g s)) a
    sets-behind Down r e d a = absurd cc
    sets-behind Over r e d a = absurd cc

    by-end : (out : SessionOut) (state : S) (e : End) → ((d : DueChange) → Among out.dues d → IsSetBehind t d) → ClocksFrom t n.standing → ClocksFrom t (standing_after t out state n.standing e)
    by-end out state session.Live s h = All-each (ClockFrom t) (clocks_after t out.dues (clocks_of n.standing))
        (clocks-from out.dues (clocks_of n.standing) s (own-clocks n.standing h))
    by-end out state session.Over s h = tt
    by-end out state (session.Down cause) s h = tt

    pub node-clocks : ClocksFrom t n.standing → ClocksFrom t (node_after u bs t n).standing
    node-clocks h = part (takes_part bs t n)
      where
        ran : (o : Option (SessionOut × S)) → session_from u bs t n n.standing ≡ o → ClocksFrom t (node_behind t n o).standing
        ran None e = h
        ran (Some r) e = by-end r.0 r.1 (r.0).end (sets-behind n.standing r e) h

        part : (q : Bool) → ClocksFrom t (node_behind t n (if q then session_from u bs t n n.standing else None)).standing
        part true = ran (session_from u bs t n n.standing) refl
        part false = h

-- from what a node enables to its clocks, and back
of-clock : {S : Type 0} (now : ℕ) (s : S) (last : ℕ) (cs : List (Option ℕ)) (due : ℕ) → Among cs (Some due) → Among (of_standing now (Live s last cs)) (at Sessions due)
of-clock now s last cs due a = among-map (at Sessions) (filter_map (λ c. c) cs) due (among-filter_map (λ c. c) cs (Some due) due a refl)

pub clocks-of-enabled : {S : Type 0} (now t : ℕ) (s : Standing S) → ((e : Event) → Among (of_standing now s) e → t ≤ e.moment) → ClocksFrom t s
clocks-of-enabled now t (New s) h = tt
clocks-of-enabled now t (Live s last clocks) h = All-each (ClockFrom t) clocks (λ c a. go c a)
  where
    go : (c : Option ℕ) → Among clocks c → ClockFrom t c
    go None a = tt
    go (Some due) a = h (at Sessions due) (of-clock now s last clocks due a)
clocks-of-enabled now t Down h = tt
clocks-of-enabled now t Over h = tt

pub enabled-of-clocks : {S : Type 0} (t : ℕ) (s : Standing S) → ClocksFrom t s → (e : Event) → Among (of_standing t s) e → t ≤ e.moment
enabled-of-clocks t (New s) h e (inl q) = omega (arith, ap (λ (x : Event). x.moment) q)
enabled-of-clocks t (New s) h e (inr a) = absurd a
enabled-of-clocks t (Live s last clocks) h e a =
    let r = map-among (at Sessions) (filter_map (λ c. c) clocks) e a in
    let f = filter_map-among (λ c. c) clocks r.0 r.1 in
    let c : ClockFrom t (Some r.0) = subst (ClockFrom t) f.2 (each-All (ClockFrom t) clocks f.0 h f.1) in
    omega (arith, c, ap (λ (x : Event). x.moment) r.2)
enabled-of-clocks t Down h e a = absurd a
enabled-of-clocks t Over h e a = absurd a

-- ---- the whole

-- buses and clocks from a moment on
pub record AllFrom {S : Type 0} (t : ℕ) (bs : List Bus) (ns : List (Node S)) : Type 0 where
  pub buses : All (InTime t) bs
  pub nodes : All (λ n. ClocksFrom t n.standing) ns

pub from-enabled : {S : Type 0} (w : World S) (t : ℕ) → ((e : Event) → Among (enabled w) e → t ≤ e.moment) → AllFrom t w.buses w.nodes
from-enabled w t h = record {
  buses = All-each (InTime t) w.buses (λ b a. moved b w.now t (λ d c. h (event_of b.setup.number d) (due-enabled w b d a c)));
  nodes = All-each (λ n. ClocksFrom t n.standing) w.nodes (λ n a. clocks-of-enabled w.now t n.standing (λ e c. h e (node-enabled w n e a c)));
}

pub to-enabled : {S : Type 0} (w : World S) → AllFrom w.now w.buses w.nodes → NothingIsLate w
to-enabled w h = All-each (λ e. w.now ≤ e.moment) (enabled w) (λ e a. go e (source w e a))
  where
    go : (e : Event) → Source w e → w.now ≤ e.moment
    go e (OfBus b a d c q) = let l = due-from w.now b d (each-All (InTime w.now) w.buses b h.buses a) c in omega (arith, l, ap (λ (x : Event). x.moment) q)
    go e (OfMail b a m c i q) = omega (arith, ap (λ (x : Event). x.moment) q)
    go e (OfNode n a c) = enabled-of-clocks w.now n.standing (each-All (λ n. ClocksFrom w.now n.standing) w.nodes n h.nodes a) e c

pub outcome-from : {S : Type 0} (u : Units S) → UnitsFit u → (w : World S) (t : ℕ) (k : What) → AllFrom t w.buses w.nodes
    → AllFrom t (outcome_of u w t k).buses (outcome_of u w t k).nodes
outcome-from {S} u fit w t k h = record {
  buses = each-bus u w t k (InTime t) (InTime t) (λ b a i. bus-in-time u w t k b i) h.buses;
  nodes = go k;
}
  where
    go : (k : What) → All (λ n. ClocksFrom t n.standing) (outcome_of u w t k).nodes
    go (Finish bus) = h.nodes
    go (Return bus node) = h.nodes
    go Sessions = all-map (λ n. ClocksFrom t n.standing) (λ n. ClocksFrom t n.standing) (node_after u w.buses t) w.nodes (λ n a i. node-clocks t u fit w.buses n i) h.nodes
    go (Start bus) = h.nodes

pub forward : {S : Type 0} (stop : ℕ) (w : World S) (e : Event) → NothingIsLate w → next_event stop w ≡ Some e → w.now ≤ e.moment
forward stop w e h n = each-All (λ d. w.now ≤ d.moment) (enabled w) e h (next-among stop w e n)

-- what is enabled isn't before the next event
pub all-from-next : {S : Type 0} (stop : ℕ) (w : World S) (e : Event) → next_event stop w ≡ Some e → AllFrom e.moment w.buses w.nodes
all-from-next stop w e n = from-enabled w e.moment (λ f a. no-earlier e f (next-unbeaten stop w e f n a))

pub none-late : {S : Type 0} (u : Units S) (stop : ℕ) (w : World S) (e : Event) → UnitsFit u → next_event stop w ≡ Some e → NothingIsLate (world_behind u w e)
none-late u stop w e fit n = to-enabled (world_behind u w e) (outcome-from u fit w e.moment e.what (all-from-next stop w e n))

pub opening-none-late : {S : Type 0} (buses : List Bus) (nodes : List (Node S)) → NothingIsLate (opening buses nodes)
opening-none-late buses nodes = All-each (λ e. 0 ≤ e.moment) (enabled (opening buses nodes)) (λ e a. omega arith)

pub never-late : {S : Type 0} (u : Units S) (stop events : ℕ) (w : World S) → UnitsFit u → NothingIsLate w → NothingIsLate (behind (network u stop) events w)
never-late u stop events w fit h = along u stop NothingIsLate (λ v e n i. none-late u stop v e fit n) events w h
