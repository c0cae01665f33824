-- Where a run ends with status 0 nothing is left to do up to the stop.
use Rattle.std.proofs.Common.{◌≡◌, ℕ, ◌+◌, ◌<◌, ◌≤◌, ◌⊎◌, Bool, true, false, if◌then◌else◌, List, [], ◌∷◌, ◌++◌, filter, max, IfSome, Option, Some, None, is_some, arith, refl, ap, ◌∙◌, sym, subst, inl, inr}
use Rattle.std.specs.Prelude.{nat_le}
use Rattle.std.proofs.lemmas.Bool.{both_ways, leb-false}
use Rattle.bus_specs.specs.Bus.{Bus, Member, Running, Fault, wants, ready_moment}
use Rattle.bus_specs.specs.Due.{Due, Notices, Start, Finish, rank, precedes, at, returns, notices, starts, dues, next_due}
use Rattle.run_specs.specs.Order.{foremost}
use Rattle.log_specs.specs.Line.{Line, End}
use Rattle.run_specs.specs.Run.{behind, head}
use Rattle.play_specs.specs.Scenario.{Action, Scenario, World, opening, or_asked, up_to, next_event, status, machine, scenario_lines}
use Rattle.bus_sound.proofs.Among.{Among, among-filter}
use Rattle.bus_sound.proofs.Lists.{among-map, among-append_right}
use Rattle.bus_sound.proofs.Orders.{foremost-some, foremost-unbeaten}
use Rattle.bus_sound.proofs.Dues.{precedes-order, not-before}
use Rattle.log_laws.specs.Scenarios.{IsScenario}
use Rattle.log_laws.specs.Mirror.{OnWire, Mirror, mirror, new_mirror}
use Rattle.log_laws.specs.Starts.{last_moment, contenders}
use Rattle.log_laws.specs.Deliveries.{time_on_wire, time_to_error}
use Rattle.log_laws.specs.Moments.{NothingIsLeft}
use Rattle.log_laws.proofs.Lawful.{Agrees, SameRunning, SameFrame, EndsBy, follow}
use Rattle.log_laws.proofs.Prompt.{none-able}
use Rattle.log_laws.proofs.Timed.{no-later, run-now}
use Rattle.log_laws.proofs.Played.{RunWorld, behind-sound, opening-sound}
use Rattle.log_laws.proofs.Followed.{mirror-agrees, opening-agrees}

-- where nothing happens up to the stop, nothing is due up to it
none-next : (stop : ℕ) (w : World) → next_event stop w ≡ None → IfSome (next_due w.bus w.now) (λ c. stop < c.moment)
unfolding next_event
none-next stop w e = go w.ahead (next_due w.bus w.now) e
  where
    after : (d : Due) → up_to stop (Some d) ≡ None → stop < d.moment
    after d k = by (nat_le d.moment stop) refl k
      where
        by : (t : Bool) → nat_le d.moment stop ≡ t → (if t then Some d else None) ≡ None → stop < d.moment
        by true p q = absurd cc
        by false p q = leb-false d.moment stop p

    go : (as' : List Action) (o : Option Due) → up_to stop (or_asked o as') ≡ None → IfSome o (λ c. stop < c.moment)
    go [] None k = tt
    go [] (Some c) k = after c k
    go (a ∷ as') None k = tt
    go (a ∷ as') (Some c) k = by (precedes (at Notices a.moment) c) refl k
      where
        by : (t : Bool) → precedes (at Notices a.moment) c ≡ t → up_to stop (if t then Some (at Notices a.moment) else Some c) ≡ None → stop < c.moment
        by true p q = let l = no-later (at Notices a.moment) c p in let m = after (at Notices a.moment) q in omega (arith, l, m)
        by false p q = after c q

due-after : (b : Bus) (since stop : ℕ) → IfSome (next_due b since) (λ c. stop < c.moment) → (x : Due) → Among (dues b since b.running) x → stop < x.moment
unfolding next_due
due-after b since stop h x a = go (foremost precedes (dues b since b.running)) refl h (foremost-some precedes (dues b since b.running) x a)
  where
    go : (o : Option Due) → foremost precedes (dues b since b.running) ≡ o → IfSome o (λ c. stop < c.moment) → is_some o ≡ true → stop < x.moment
    go None e k s = absurd (both_ways false refl s)
    go (Some c) e k s = by (not-before x c (foremost-unbeaten precedes precedes-order (dues b since b.running) c x e a))
      where
        by : (c.moment < x.moment) ⊎ ((c.moment ≡ x.moment) × (rank c.what ≤ rank x.what)) → stop < x.moment
        by (inl l) = omega (arith, l, k)
        by (inr l) = omega (arith, l.0, k)

-- the last line of two lists
pub last-same : {X : Type 0} (xs ys : List X) (x y : X) → xs ++ x ∷ [] ≡ ys ++ y ∷ [] → (xs ≡ ys) × (x ≡ y)
last-same [] [] x y e = (refl, cc)
last-same [] (z ∷ []) x y e = absurd cc
last-same [] (z ∷ w ∷ ys) x y e = absurd cc
last-same (z ∷ []) [] x y e = absurd cc
last-same (z ∷ w ∷ xs) [] x y e = absurd cc
last-same (z ∷ xs) (w ∷ ys) x y e =
    let r = last-same xs ys x y cc in
    let h : z ≡ w = cc in
    let t : xs ≡ ys = r.0 in (cc, r.1)

module _ (p : Scenario) (k : ℕ) (h : IsScenario p) where
  abbrev last_world : World
  last_world = behind (machine p.stop) k (opening p)

  abbrev body : List Line
  body = head (machine p.stop) k (opening p)

  world : RunWorld p last_world
  world = behind-sound p k (opening p) (opening-sound p h)

  agrees : Agrees (follow p.setup (new_mirror p.nodes) body) last_world.bus
  agrees = (mirror-agrees p k h).agrees

  now-is : last_moment body ≡ last_world.now
  now-is = run-now p k (opening p) (new_mirror p.nodes) (opening-sound p h) (opening-agrees p).1 (opening-agrees p).0

  no-event : (o : Option Due) → status o ≡ 0 → o ≡ None
  no-event None e = refl
  no-event (Some d) e = absurd (omega (arith, e))

  -- what an end line with status 0 says
  record AtEnd (before : List Line) : Type 0 where
    same : body ≡ before
    none : next_event p.stop last_world ≡ None

  at-end : (before : List Line) (events : ℕ) → scenario_lines k p ≡ before ++ End 0 events ∷ [] → AtEnd before
  at-end before events e =
      let r = last-same body before (End (status (next_event p.stop last_world)) last_world.events) (End 0 events) e in
      record { same = r.0; none = no-event (next_event p.stop last_world) (zero r.1) }
    where
      zero : {s t n m : ℕ} → End s n ≡ End t m → s ≡ t
      zero q = cc

  least : next_event p.stop last_world ≡ None → last_world.bus.running ≡ None → (x : Member) → Among last_world.bus.members x → wants last_world.bus x ≡ true
      → p.stop + 1 ≤ max last_world.now (ready_moment last_world.bus x)
  least none free x a t =
      let b = last_world.bus in
      let it : Due = at Start (max last_world.now (ready_moment b x)) in
      let there : Among (starts b last_world.now) it = among-map (λ y. at Start (max last_world.now (ready_moment b y))) (filter (wants b) b.members) x (among-filter (wants b) b.members x a t) in
      let due : Among (dues b last_world.now None) it = among-append_right (returns b ++ notices b) (starts b last_world.now) it there in
      let l = due-after b last_world.now p.stop (none-next p.stop last_world none) it (subst (λ o. Among (dues b last_world.now o) it) (sym free) due) in
      omega (arith, l)

  free-of : (m : Mirror) (b : Bus) → Agrees m b → m.running ≡ None → (o : Option Running) → b.running ≡ o → o ≡ None
  free-of m b a e None q = refl
  free-of m b a e (Some r) q = absurd (subst (λ x. SameRunning b.setup x (Some r)) e (subst (λ x. SameRunning b.setup m.running x) q a.running))

  runs-of : (m : Mirror) (b : Bus) (w : OnWire) → Agrees m b → m.running ≡ Some w → (o : Option Running) → b.running ≡ o → (r : Running) × (b.running ≡ Some r) × SameFrame b.setup w r
  runs-of m b w a e None q = absurd (subst (λ x. SameRunning b.setup x None) e (subst (λ x. SameRunning b.setup m.running x) q a.running))
  runs-of m b w a e (Some r) q = (r, q, subst (λ x. SameRunning b.setup x (Some r)) e (subst (λ x. SameRunning b.setup m.running x) q a.running))

  pub nothing-left : NothingIsLeft p (scenario_lines k p)
  nothing-left = record {
    idle = λ before events e free moment from up.
        let z = at-end before events e in
        let m = mirror p.setup p.nodes body in
        let free' : m.running ≡ None = subst (λ l. (mirror p.setup p.nodes l).running ≡ None) (sym z.same) free in
        let since : last_world.now ≤ moment = subst (λ n. n ≤ moment) (ap last_moment (sym z.same) ∙ now-is) from in
        subst (λ l. contenders p.setup (mirror p.setup p.nodes l) moment ≡ []) z.same
        (subst (λ s. contenders s m moment ≡ []) world.bus.setup
        (none-able last_world.bus m last_world.now (p.stop + 1) agrees world.bus.live (least z.none (free-of m last_world.bus agrees free' last_world.bus.running refl))
        moment since (omega (arith, up))));
    busy = λ before events w e runs.
        let z = at-end before events e in
        let m = mirror p.setup p.nodes body in
        let r = runs-of m last_world.bus w agrees (subst (λ l. (mirror p.setup p.nodes l).running ≡ Some w) (sym z.same) runs) last_world.bus.running refl in
        let l = due-after last_world.bus last_world.now p.stop (none-next p.stop last_world z.none) (at Finish (r.0).end)
        (subst (λ o. Among (dues last_world.bus last_world.now o) (at Finish (r.0).end)) (sym r.1) (inl refl)) in
        ends w (r.0).fault (r.0).end (subst (λ s. EndsBy s w.since w.frame (r.0).fault (r.0).end) world.bus.setup (r.2).ends) l;
  }
    where
      ends : (w : OnWire) (o : Option Fault) (end : ℕ) → EndsBy p.setup w.since w.frame o end → p.stop < end
          → (p.stop < w.since + time_on_wire p.setup w.frame) ⊎ ((bit : ℕ) × (p.stop < w.since + time_to_error p.setup w.frame bit))
      ends w None end e l = inl (subst (λ n. p.stop < n) e l)
      ends w (Some x) end e l = inr (e.0, subst (λ n. p.stop < n) e.1 l)
