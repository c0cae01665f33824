-- In a scenario the bus is sound behind any number of events.
use Rattle.std.proofs.Common.{◌≡◌, ℕ, zero, suc, ◌==◌, ◌⊎◌, Bool, true, false, if◌then◌else◌, List, [], ◌∷◌, filter, fold, All, Option, Some, None, arith, sym, refl, ap, ◌∙◌, subst, inl, inr, eq-eqb}
use Rattle.std.specs.Prelude.{nat_le, nat_lt, option_map}
use Rattle.std.proofs.lemmas.Bool.{both_ways, eqb-true}
use Rattle.log_specs.specs.Line.{Line}
use Rattle.bus_specs.specs.Bus.{Bus, Member, new_bus}
use Rattle.bus_specs.specs.Submit.{submission_of}
use Rattle.bus_specs.specs.Inbox.{enter, take_inbox}
use Rattle.bus_specs.specs.Start.{start}
use Rattle.bus_specs.specs.Finish.{finish, recover}
use Rattle.run_specs.specs.Order.{better_of}
use Rattle.bus_specs.specs.Due.{Due, What, Finish, Return, Notices, Start, rank, at, precedes, next_due}
use Rattle.run_specs.specs.Run.{behind, then_from}
use Rattle.play_specs.specs.Scenario.{Action, Scenario, World, opening, or_asked, up_to, next_event, along, takers, action_step, moment_step, event_step, left_ahead, world_behind, machine}
use Rattle.bus_specs.specs.Sound.{Sound}
use Rattle.log_laws.specs.Scenarios.{Acts, IsScenario}
use Rattle.bus_sound.proofs.Among.{Among, filter-among}
use Rattle.bus_sound.proofs.Lists.{All-each, each-All, among-map, map-among, any_to}
use Rattle.bus_sound.proofs.Members.{KeepsNodes, nodes_of, nodes-map, is_from}
use Rattle.bus_sound.proofs.Quiet.{one, enter-sound, take_inbox-sound, recover-sound}
use Rattle.bus_sound.proofs.Steady.{Steady, submit-steady, start-steady, finish-steady, recover-steady, take-steady}
use Rattle.bus_sound.proofs.Opened.{new_bus-sound, new_member-nodes}
use Rattle.bus_sound.proofs.Submitted.{submit-sound, submission_of-fits}
use Rattle.bus_sound.proofs.Started.{start-sound}
use Rattle.bus_sound.proofs.Finished.{finish-sound}

-- the bus of a scenario: sound, with its setup and its nodes, all live
pub record RunBus (p : Scenario) (b : Bus) : Type 0 where
  pub sound : Sound b
  pub setup : b.setup ≡ p.setup
  pub nodes : nodes_of b.members ≡ p.nodes
  pub live : (m : Member) → Among b.members m → m.live ≡ true

pub record RunWorld (p : Scenario) (w : World) : Type 0 where
  pub bus : RunBus p w.bus
  pub ahead : All (Acts p) w.ahead

pub steady : (p : Scenario) (b after : Bus) → RunBus p b → Steady b after → Sound after → RunBus p after
steady p b after h s sound = record {
  sound = sound;
  setup = s.setup ∙ h.setup;
  nodes = ap nodes_of s.members ∙ nodes-map s.change s.node b.members ∙ h.nodes;
  live = λ m a.
      let r = map-among s.change b.members m (subst (λ ms. Among ms m) s.members a) in
      subst (λ (x : Member). x.live ≡ true) r.2 (s.live r.0 (h.live r.0 r.1));
}

-- steps one after another
all-along : {A : Type 0} (P : Bus → Type 0) (step : Bus → A → Bus × List Line) (xs : List A) (so_far : Bus × List Line)
    → ((b : Bus) (x : A) → Among xs x → P b → P (step b x).0) → P so_far.0 → P (fold (along step) so_far xs).0
all-along P step [] so_far k h = h
all-along P step (x ∷ xs) so_far k h = all-along P step xs (along step so_far x) (λ b y a. k b y (inr a)) (k so_far.0 x (inl refl) h)

module _ (p : Scenario) where
  pub action_step-sound : (b : Bus) (a : Action) → Acts p a → RunBus p b → RunBus p (action_step b a).0
  action_step-sound b a k h = steady p b (action_step b a).0 h (submit-steady b a.moment a.node (submission_of b.setup a.item))
      (submit-sound b a.moment a.node (submission_of b.setup a.item) h.sound (submission_of-fits b.setup a.item k.item)
      (let n = any_to (λ n. n == a.node) p.nodes k.node in
      let named : Among p.nodes a.node = subst (Among p.nodes) (eqb-true n.0 a.node n.2) n.1 in
      let r = map-among (λ (m : Member). m.node) b.members a.node (subst (λ ns. Among ns a.node) (sym h.nodes) named) in
      is_from (λ m. m.live) b.members r.0 a.node r.1 r.2 (h.live r.0 r.1)))

  lines-sound : (w : World) (now : ℕ) → RunWorld p w → RunBus p (moment_step w now).0
  lines-sound w now h = all-along (RunBus p) action_step (filter (λ a. a.moment == now) w.ahead) taken
      (λ b a k i. action_step-sound b a (each-All (Acts p) w.ahead a h.ahead (filter-among (λ a. a.moment == now) w.ahead a k).0) i)
      (all-along (RunBus p) (λ b node. take_inbox b now node) (takers w.bus now) (w.bus, [])
      (λ b n k i. steady p b (take_inbox b now n).0 i (take-steady b now n) (take_inbox-sound b now n i.sound)) h.bus)
    where
      taken : Bus × List Line
      taken = fold (along (λ b node. take_inbox b now node)) (w.bus, []) (takers w.bus now)

  event_step-sound : (w : World) (now : ℕ) (what : What) → (what ≡ Start → next_due w.bus w.now ≡ Some (at Start now)) → RunWorld p w
      → RunBus p (event_step w now what).0
  event_step-sound w now Finish d h = steady p w.bus (finish w.bus now).0 h.bus (finish-steady w.bus now)
      (finish-sound w.bus now (h.bus).sound)
  event_step-sound w now (Return n) d h = steady p w.bus (recover w.bus now n).0 h.bus (recover-steady w.bus now n)
      (recover-sound w.bus now n (h.bus).sound)
  event_step-sound w now Notices d h = lines-sound w now h
  event_step-sound w now Start d h = steady p w.bus (start w.bus now).0 h.bus (start-steady w.bus now)
      (start-sound w.bus w.now now (h.bus).sound (d refl))

  later_part-action_step : (w : World) (now : ℕ) (what : What) → All (Acts p) w.ahead → All (Acts p) (left_ahead w now what)
  later_part-action_step w now Finish h = h
  later_part-action_step w now (Return n) h = h
  later_part-action_step w now Start h = h
  later_part-action_step w now Notices h = All-each (Acts p) (filter (λ a. nat_lt now a.moment) w.ahead)
      (λ a k. each-All (Acts p) w.ahead a h (filter-among (λ a. nat_lt now a.moment) w.ahead a k).0)

  -- a start is the bus's own, not the file's
  pub own-start : (w : World) (d : Due) → next_event p.stop w ≡ Some d → d.what ≡ Start → next_due w.bus w.now ≡ Some (at Start d.moment)
  unfolding next_event
  own-start w d e s = file w.ahead (below (or_asked (next_due w.bus w.now) w.ahead) e)
    where
      below : (o : Option Due) → up_to p.stop o ≡ Some d → o ≡ Some d
      below None k = absurd cc
      below (Some c) k = go (nat_le c.moment p.stop) k
        where
          go : (t : Bool) → (if t then Some c else None) ≡ Some d → Some c ≡ Some d
          go true q = q
          go false q = absurd cc

      whole : d ≡ at Start d.moment
      whole = ap (λ x. at x d.moment) s

      notice : (t : ℕ) → at Notices t ≡ d → ⊥
      notice t q = let k : 2 ≡ 3 = ap (λ (x : Due). rank x.what) q ∙ ap rank s in omega (arith, k)

      better : (o : Option Due) (t : ℕ) → better_of precedes o (at Notices t) ≡ Some d → o ≡ Some d
      better None t k = absurd (notice t cc)
      better (Some c) t k = go (precedes (at Notices t) c) k
        where
          go : (u : Bool) → (if u then Some (at Notices t) else Some c) ≡ Some d → Some c ≡ Some d
          go true q = absurd (notice t cc)
          go false q = q

      file : (as' : List Action) → or_asked (next_due w.bus w.now) as' ≡ Some d → next_due w.bus w.now ≡ Some (at Start d.moment)
      file [] k = k ∙ ap Some whole
      file (a ∷ as') k = better (next_due w.bus w.now) a.moment k ∙ ap Some whole

  pub after-sound : (w : World) (d : Due) → next_event p.stop w ≡ Some d → RunWorld p w → RunWorld p (world_behind w d).0
  after-sound w d e h = record {
    bus = event_step-sound w d.moment d.what (own-start w d e) h;
    ahead = later_part-action_step w d.moment d.what h.ahead;
  }

  pub behind-sound : (k : ℕ) (w : World) → RunWorld p w → RunWorld p (behind (machine p.stop) k w)
  unfolding behind
  behind-sound zero w h = h
  behind-sound (suc k) w h = go (next_event p.stop w) refl (λ v i. behind-sound k v i)
    where
      go : (o : Option Due) → next_event p.stop w ≡ o → ((v : World) → RunWorld p v → RunWorld p (behind (machine p.stop) k v))
          → RunWorld p (then_from w (λ x. behind (machine p.stop) k x.0) (option_map (world_behind w) o))
      go None e on = h
      go (Some d) e on = on (world_behind w d).0 (after-sound w d e h)

  -- all nodes enter
  record Entered (seen : List ℕ) (b : Bus) : Type 0 where
    sound : Sound b
    setup : b.setup ≡ p.setup
    nodes : nodes_of b.members ≡ p.nodes
    live : (m : Member) → Among b.members m → Among seen m.node → m.live ≡ true

  enter-one : (seen : List ℕ) (b : Bus) (n : ℕ) → Entered seen b → Entered (n ∷ seen) (enter b n)
  enter-one seen b n h = record {
    sound = enter-sound b n h.sound;
    setup = h.setup;
    nodes = nodes-map (one n (λ m. record m { live = true })) keeps b.members ∙ h.nodes;
    live = λ m a s. let r = map-among (one n (λ x. record x { live = true })) b.members m a in
        subst (λ (x : Member). x.live ≡ true) r.2 (by r.0 r.1 (r.0).live ((r.0).node == n) refl refl
        (subst (λ k. Among (n ∷ seen) k) (sym (ap (λ (x : Member). x.node) r.2) ∙ keeps r.0) s));
  }
    where
      keeps : KeepsNodes (one n (λ m. record m { live = true }))
      keeps m = go (m.node == n)
        where
          go : (t : Bool) → (if t then record m { live = true } else m).node ≡ m.node
          go true = refl
          go false = refl

      by : (m : Member) → Among b.members m → (u t : Bool) → m.live ≡ u → (m.node == n) ≡ t → Among (n ∷ seen) m.node
          → (if t then record m { live = true } else m).live ≡ true
      by m a u true e f s = refl
      by m a u false e f (inl s) = absurd (both_ways (m.node == n) f (eq-eqb m.node n (sym s)))
      by m a u false e f (inr s) = h.live m a s

  enter-all : (ns seen : List ℕ) (b : Bus) → Entered seen b → (all : List ℕ) → ((n : ℕ) → Among all n → Among ns n ⊎ Among seen n)
      → ((seen' : List ℕ) (c : Bus) → ((n : ℕ) → Among all n → Among seen' n) → Entered seen' c → RunBus p c)
      → RunBus p (fold enter b ns)
  enter-all [] seen b h all k on = on seen b (λ n a. none n (k n a)) h
    where
      none : (n : ℕ) → Among [] n ⊎ Among seen n → Among seen n
      none n (inl e) = absurd e
      none n (inr a) = a
  enter-all (n ∷ ns) seen b h all k on = enter-all ns (n ∷ seen) (enter b n) (enter-one seen b n h) all (λ m a. move m (k m a)) on
    where
      move : (m : ℕ) → Among (n ∷ ns) m ⊎ Among seen m → Among ns m ⊎ Among (n ∷ seen) m
      move m (inl (inl e)) = inr (inl e)
      move m (inl (inr a)) = inl a
      move m (inr a) = inr (inr a)

  pub opening-sound : IsScenario p → RunWorld p (opening p)
  opening-sound h = record {
    bus = enter-all p.nodes [] (new_bus p.setup p.nodes) first p.nodes (λ n a. inl a)
        (λ seen c k e. record {
          sound = e.sound;
          setup = e.setup;
          nodes = e.nodes;
          live = λ m a. e.live m a (k m.node (subst (λ ns. Among ns m.node) e.nodes (among-map (λ (x : Member). x.node) c.members m a)));
        });
    ahead = h.actions;
  }
    where
      first : Entered [] (new_bus p.setup p.nodes)
      first = record {
        sound = new_bus-sound p.setup p.nodes (h.nodes).0 h.setup (h.nodes).1;
        setup = refl;
        nodes = new_member-nodes p.nodes;
        live = λ m a s. absurd s;
      }

pub every-bus-sound : (p : Scenario) (k : ℕ) → IsScenario p → Sound (behind (machine p.stop) k (opening p)).bus
every-bus-sound p k h = ((behind-sound p k (opening p) (opening-sound p h)).bus).sound
