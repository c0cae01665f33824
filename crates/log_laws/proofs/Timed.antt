-- Along a run moments never fall.
use Rattle.std.proofs.Common.{◌≡◌, ℕ, zero, suc, ◌<◌, ◌≤◌, ◌==◌, ◌⊎◌, Bool, true, false, cond, if◌then◌else◌, List, [], ◌∷◌, ◌++◌, filter, fold, IfSome, Option, Some, None, arith, refl, ap, ◌∙◌, sym, subst, inl, inr}
use Rattle.std.specs.Prelude.{◌&&◌, nat_le, nat_lt, option_map, ⊤}
use Rattle.std.proofs.lemmas.Bool.{and_parts, or_cases, eqb-true, ltb-true}
use Rattle.std.proofs.lemmas.List.Sums.{fold-append}
use Rattle.bus_specs.specs.Bus.{Bus, Setup, new_bus}
use Rattle.bus_specs.specs.Inbox.{enter, take_inbox}
use Rattle.bus_specs.specs.Submit.{submission_of}
use Rattle.bus_specs.specs.Due.{Due, What, Finish, Return, Notices, Start, rank, precedes, at, next_due}
use Rattle.bus_specs.specs.InTime.{InTime}
use Rattle.log_specs.specs.Line.{Line, On, Down, Over, End}
use Rattle.run_specs.specs.Run.{behind, head, then_from}
use Rattle.play_specs.specs.Scenario.{Action, Scenario, World, opening, or_asked, up_to, next_event, along, takers, action_step, event_step, left_ahead, world_behind, status, machine, scenario_lines}
use Rattle.bus_sound.proofs.Among.{filter-among}
use Rattle.bus_sound.proofs.Dues.{not-before}
use Rattle.bus_sound.proofs.Timed.{new_bus-in-time, enter-in-time, submit-in-time, take-in-time, start-in-time, finish-in-time, recover-in-time, next-in-time}
use Rattle.bus_sound.proofs.Later.{later}
use Rattle.log_laws.specs.Scenarios.{IsScenario}
use Rattle.log_laws.specs.Mirror.{Mirror, new_mirror}
use Rattle.log_laws.specs.Starts.{moment_after}
use Rattle.log_laws.specs.Moments.{Rising, ByMoment, MomentsNeverFall}
use Rattle.log_laws.proofs.Lawful.{Agrees, follow}
use Rattle.log_laws.proofs.Known.{Offered}
use Rattle.log_laws.proofs.Moments.{IsAt}
use Rattle.log_laws.proofs.Due.{own-finish, Asked, due-or-asked, event-some}
use Rattle.log_laws.proofs.Prompt.{AllAt, comes-at, event-lines}
use Rattle.log_laws.proofs.Played.{RunWorld, own-start, after-sound, opening-sound}
use Rattle.log_laws.proofs.Followed.{all-pairs, event-goes, opening-agrees}

-- what happens next comes before all that is due and asked
pub record Before (w : World) (d : Due) : Type 0 where
  pub due : IfSome (next_due w.bus w.now) (λ c. d.moment ≤ c.moment)
  pub asked : Rising w.now w.ahead → Rising d.moment w.ahead

pub no-later : (x c : Due) → precedes x c ≡ true → x.moment ≤ c.moment
no-later x c h = go (or_cases (nat_lt x.moment c.moment) ((x.moment == c.moment) && nat_lt (rank x.what) (rank c.what)) h)
  where
    go : (nat_lt x.moment c.moment ≡ true) ⊎ (((x.moment == c.moment) && nat_lt (rank x.what) (rank c.what)) ≡ true) → x.moment ≤ c.moment
    go (inl e) = let l = ltb-true x.moment c.moment e in omega (arith, l)
    go (inr e) = let s = eqb-true x.moment c.moment (and_parts (x.moment == c.moment) (nat_lt (rank x.what) (rank c.what)) e).0 in omega (arith, s)

pub before-all : (stop : ℕ) (w : World) (d : Due) → next_event stop w ≡ Some d → Before w d
unfolding next_event
before-all stop w d e = asks w.ahead refl (next_due w.bus w.now) refl (below (or_asked (next_due w.bus w.now) w.ahead) e)
  where
    below : (o : Option Due) → up_to stop o ≡ Some d → o ≡ Some d
    below None k = absurd cc
    below (Some c) k = go (nat_le c.moment stop) k
      where
        go : (t : Bool) → (if t then Some c else None) ≡ Some d → Some c ≡ Some d
        go true q = q
        go false q = absurd cc

    done : (o : Option Due) (as' : List Action) → next_due w.bus w.now ≡ o → w.ahead ≡ as' → IfSome o (λ c. d.moment ≤ c.moment) → (Rising w.now as' → Rising d.moment as') → Before w d
    done o as' p q x y = record {
      due = subst (λ v. IfSome v (λ c. d.moment ≤ c.moment)) (sym p) x;
      asked = subst (λ l. Rising w.now l → Rising d.moment l) (sym q) y;
    }

    asks : (as' : List Action) → w.ahead ≡ as' → (o : Option Due) → next_due w.bus w.now ≡ o → or_asked o as' ≡ Some d → Before w d
    asks [] q None p k = absurd cc
    asks [] q (Some c) p k = let s : c ≡ d = cc in done (Some c) [] p q (omega (arith, ap (λ (x : Due). x.moment) s)) (λ h. tt)
    asks (a ∷ as') q None p k = let s : at Notices a.moment ≡ d = cc in
        let m : a.moment ≡ d.moment = ap (λ (x : Due). x.moment) s in done None (a ∷ as') p q tt (λ h. (omega (arith, m), h.1))
    asks (a ∷ as') q (Some c) p k = go (precedes (at Notices a.moment) c) refl k
      where
        go : (t : Bool) → precedes (at Notices a.moment) c ≡ t → (if t then Some (at Notices a.moment) else Some c) ≡ Some d → Before w d
        go true r z =
            let s : at Notices a.moment ≡ d = cc in
            let m : a.moment ≡ d.moment = ap (λ (x : Due). x.moment) s in
            let l : a.moment ≤ c.moment = no-later (at Notices a.moment) c r in
            done (Some c) (a ∷ as') p q (omega (arith, m, l)) (λ h. (omega (arith, m), h.1))
        go false r z =
            let s : c ≡ d = cc in
            let m : c.moment ≡ d.moment = ap (λ (x : Due). x.moment) s in
            done (Some c) (a ∷ as') p q (omega (arith, m)) (λ h. (by m (not-before (at Notices a.moment) c r), h.1))
          where
            by : c.moment ≡ d.moment → (c.moment < a.moment) ⊎ ((c.moment ≡ a.moment) × (rank c.what ≤ 2)) → d.moment ≤ a.moment
            by m (inl l) = omega (arith, l, m)
            by m (inr l) = omega (arith, l.0, m)

-- later actions
pub rising-lower : (from to : ℕ) (as' : List Action) → from ≤ to → Rising to as' → Rising from as'
rising-lower from to [] l h = tt
rising-lower from to (a ∷ as') l h = (omega (arith, l, h.0), h.1)

pub rising-filter : (p : Action → Bool) (from : ℕ) (as' : List Action) → Rising from as' → Rising from (filter p as')
rising-filter p from [] h = tt
rising-filter p from (a ∷ as') h = go (p a) (rising-filter p a.moment as' h.1)
  where
    go : (t : Bool) → Rising a.moment (filter p as') → Rising from (cond t (a ∷ filter p as') (filter p as'))
    go true k = (h.0, k)
    go false k = rising-lower from a.moment (filter p as') h.0 k

pub record InOrder (w : World) : Type 0 where
  pub time : InTime w.now w.bus
  pub ahead : Rising w.now w.ahead

module _ (p : Scenario) where
  event-in-time : (w : World) (now : ℕ) (what : What) → InTime now w.bus → InTime now (event_step w now what).0
  event-in-time w now Finish t = finish-in-time now w.bus t
  event-in-time w now (Return n) t = recover-in-time now w.bus n t
  event-in-time w now Start t = start-in-time now w.bus t
  event-in-time w now Notices t = all-pairs (λ q. InTime now q.0) action_step (filter (λ a. a.moment == now) w.ahead) (fold (along (λ b node. take_inbox b now node)) (w.bus, []) (takers w.bus now))
      (λ q a k i. let f = filter-among (λ (a : Action). a.moment == now) w.ahead a k in
      let there : a.moment ≡ now = eqb-true a.moment now f.1 in
      subst (λ x. InTime x (action_step q.0 a).0) there (submit-in-time a.moment q.0 a.node (submission_of (q.0).setup a.item) (subst (λ x. InTime x q.0) (sym there) i)))
      (all-pairs (λ q. InTime now q.0) (λ b node. take_inbox b now node) (takers w.bus now) (w.bus, []) (λ q n k i. take-in-time now q.0 n i) t)

  left-rising : (w : World) (now : ℕ) (what : What) → Rising now w.ahead → Rising now (left_ahead w now what)
  left-rising w now Finish h = h
  left-rising w now (Return n) h = h
  left-rising w now Start h = h
  left-rising w now Notices h = rising-filter (λ a. nat_lt now a.moment) now w.ahead h

  not-past : (w : World) (d : Due) → next_event p.stop w ≡ Some d → InOrder w → w.now ≤ d.moment
  not-past w d e o = go (due-or-asked p.stop w d e)
    where
      first : (as' : List Action) (a : Action) (rest : List Action) → as' ≡ a ∷ rest → Rising w.now as' → w.now ≤ a.moment
      first as' a rest q h = (subst (Rising w.now) q h).0

      go : (next_due w.bus w.now ≡ Some d) ⊎ Asked w d → w.now ≤ d.moment
      go (inl k) = next-in-time w.now w.bus d o.time k
      go (inr k) = let l = first w.ahead k.action k.rest k.ahead o.ahead in
          let m : d.moment ≡ k.action.moment = ap (λ (x : Due). x.moment) k.due in omega (arith, l, m)

  pub stays-in-order : (w : World) (d : Due) → next_event p.stop w ≡ Some d → InOrder w → InOrder (world_behind w d).0
  stays-in-order w d e o = let b = before-all p.stop w d e in record {
    time = event-in-time w d.moment d.what (later w.bus w.now d.moment b.due);
    ahead = left-rising w d.moment d.what (b.asked o.ahead);
  }

  all-enter-time : (ns : List ℕ) (b : Bus) → InTime 0 b → InTime 0 (fold enter b ns)
  all-enter-time [] b t = t
  all-enter-time (n ∷ ns) b t = all-enter-time ns (enter b n) (enter-in-time 0 b n t)

  pub opening-in-order : ByMoment p → InOrder (opening p)
  opening-in-order h = record { time = all-enter-time p.nodes (new_bus p.setup p.nodes) (new_bus-in-time p.setup p.nodes); ahead = h }

-- lines no earlier than this and than those before them
abbrev LaterLine : ℕ → Line → Type 0
LaterLine last (On t bus node told) = last ≤ t
LaterLine last (Down t node cause) = ⊤
LaterLine last (Over t node) = ⊤
LaterLine last (End status events) = ⊤

abbrev Laters : ℕ → List Line → Type 0
Laters last [] = ⊤
Laters last (line ∷ lines) = LaterLine last line × Laters (moment_after last line) lines

laters-append : (xs ys : List Line) (last : ℕ) → Laters last xs → Laters (fold moment_after last xs) ys → Laters last (xs ++ ys)
laters-append [] ys last h k = k
laters-append (x ∷ xs) ys last h k = (h.0, laters-append xs ys (moment_after last x) h.1 k)

line-later : (s : Setup) (now last : ℕ) (line : Line) → last ≤ now → IsAt s now line → LaterLine last line × (moment_after last line ≤ now)
line-later s now last (On t bus node told) l a = (omega (arith, l, a.0), omega (arith, a.0))
line-later s now last (Down t node cause) l a = absurd a
line-later s now last (Over t node) l a = absurd a
line-later s now last (End status events) l a = absurd a

at-later : (s : Setup) (now last : ℕ) (lines : List Line) → last ≤ now → AllAt s now lines → Laters last lines
at-later s now last [] l a = tt
at-later s now last (line ∷ lines) l a = let h = line-later s now last line l a.0 in (h.0, at-later s now (moment_after last line) lines h.1 a.1)

module _ (p : Scenario) where
  run-later : (k : ℕ) (w : World) (m : Mirror) → RunWorld p w → Offered w.bus → Agrees m w.bus → InOrder w → Laters w.now (head (machine p.stop) k w)
  unfolding head
  run-later zero w m h f a o = tt
  run-later (suc k) w m h f a i = go (next_event p.stop w) refl (λ v x g b c j. run-later k v x g b c j)
    where
      go : (o : Option Due) → next_event p.stop w ≡ o
          → ((v : World) (x : Mirror) → RunWorld p v → Offered v.bus → Agrees x v.bus → InOrder v → Laters v.now (head (machine p.stop) k v))
          → Laters w.now (then_from [] (λ x. x.1 ++ head (machine p.stop) k x.0) (option_map (world_behind w) o))
      go None e on = tt
      go (Some d) e on =
          let g = event-goes p w m d.moment d.what (own-start p w d e) (own-finish p.stop w d e) h f a in
          let l = event-lines p w m d.moment d.what (own-start p w d e) h a in
          let there : fold moment_after w.now (event_step w d.moment d.what).1 ≡ d.moment =
          comes-at p.setup d.moment w.now (event_step w d.moment d.what).1 l.at (event-some p.stop w d e) in
          laters-append (event_step w d.moment d.what).1 (head (machine p.stop) k (world_behind w d).0) w.now
          (at-later p.setup d.moment w.now (event_step w d.moment d.what).1 (not-past p w d e i) l.at)
          (subst (λ n. Laters n (head (machine p.stop) k (world_behind w d).0)) (sym there)
          (on (world_behind w d).0 (follow p.setup m (event_step w d.moment d.what).1) (after-sound p w d e h) g.0 g.1.agrees (stays-in-order p w d e i)))

  -- where the lines of a run end, the run is
  pub run-now : (k : ℕ) (w : World) (m : Mirror) → RunWorld p w → Offered w.bus → Agrees m w.bus → fold moment_after w.now (head (machine p.stop) k w) ≡ (behind (machine p.stop) k w).now
  unfolding head behind
  run-now zero w m h f a = refl
  run-now (suc k) w m h f a = go (next_event p.stop w) refl (λ v x g b c. run-now k v x g b c)
    where
      go : (o : Option Due) → next_event p.stop w ≡ o
          → ((v : World) (x : Mirror) → RunWorld p v → Offered v.bus → Agrees x v.bus → fold moment_after v.now (head (machine p.stop) k v) ≡ (behind (machine p.stop) k v).now)
          → fold moment_after w.now (then_from [] (λ x. x.1 ++ head (machine p.stop) k x.0) (option_map (world_behind w) o)) ≡ (then_from w (λ x. behind (machine p.stop) k x.0) (option_map (world_behind w) o)).now
      go None e on = refl
      go (Some d) e on =
          let g = event-goes p w m d.moment d.what (own-start p w d e) (own-finish p.stop w d e) h f a in
          let l = event-lines p w m d.moment d.what (own-start p w d e) h a in
          fold-append moment_after w.now (event_step w d.moment d.what).1 (head (machine p.stop) k (world_behind w d).0)
          ∙ ap (λ n. fold moment_after n (head (machine p.stop) k (world_behind w d).0)) (comes-at p.setup d.moment w.now (event_step w d.moment d.what).1 l.at (event-some p.stop w d e))
          ∙ on (world_behind w d).0 (follow p.setup m (event_step w d.moment d.what).1) (after-sound p w d e h) g.0 g.1.agrees

  lines-later : (k : ℕ) → IsScenario p → ByMoment p → Laters 0 (scenario_lines k p)
  lines-later k h b = laters-append (head (machine p.stop) k (opening p)) (End (status (next_event p.stop (behind (machine p.stop) k (opening p)))) (behind (machine p.stop) k (opening p)).events ∷ []) 0
      (run-later k (opening p) (new_mirror p.nodes) (opening-sound p h) (opening-agrees p).1 (opening-agrees p).0 (opening-in-order p b)) (tt, tt)

later-at : (last : ℕ) (before : List Line) (line : Line) (rest : List Line) → Laters last (before ++ line ∷ rest) → LaterLine (fold moment_after last before) line
later-at last [] line rest h = h.0
later-at last (x ∷ before) line rest h = later-at (moment_after last x) before line rest h.1

pub never-fall : (k : ℕ) (p : Scenario) → IsScenario p → ByMoment p → MomentsNeverFall (scenario_lines k p)
never-fall k p h b before rest t bus node told e = later-at 0 before (On t bus node told) rest (subst (Laters 0) e (lines-later p k h b))
