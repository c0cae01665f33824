-- Behind any number of events of a scenario the mirror of the lines so far agrees with the bus, and each line is lawful.
use Rattle.std.proofs.Common.{◌≡◌, ℕ, zero, suc, ◌==◌, true, List, [], ◌∷◌, ◌++◌, filter, fold, Option, Some, None, refl, ◌∙◌, sym, subst, inl, inr, append-nil}
use Rattle.std.specs.Prelude.{option_map}
use Rattle.log_specs.specs.Line.{Line, End}
use Rattle.bus_specs.specs.Bus.{Bus, Setup, new_bus, new_member}
use Rattle.bus_specs.specs.Submit.{submission_of}
use Rattle.bus_specs.specs.Inbox.{enter, take_inbox}
use Rattle.bus_specs.specs.Start.{start}
use Rattle.bus_specs.specs.Finish.{finish, recover}
use Rattle.bus_specs.specs.Due.{Due, What, Finish, Return, Notices, Start, at, next_due}
use Rattle.run_specs.specs.Run.{behind, head, then_from}
use Rattle.play_specs.specs.Scenario.{Action, Scenario, World, opening, next_event, along, takers, action_step, event_step, world_behind, status, machine, scenario_lines}
use Rattle.bus_sound.proofs.Among.{Among, filter-among}
use Rattle.bus_sound.proofs.Lists.{each-All}
use Rattle.log_laws.specs.Scenarios.{Acts, IsScenario}
use Rattle.log_laws.specs.Mirror.{Mirror, new_mirror, new_seen}
use Rattle.log_laws.proofs.Rows.{map-map}
use Rattle.log_laws.proofs.Lawful.{Opens, Lawful, Within, Follows, follows-none, follows-append, within-append, Agrees, seen, follow}
use Rattle.log_laws.proofs.Known.{Offered, map-unseen, one-unseen}
use Rattle.log_laws.proofs.Submits.{submit-follows, submit-offered}
use Rattle.log_laws.proofs.Takes.{take-follows, take-offered, recover-follows, recover-offered}
use Rattle.log_laws.proofs.Begun.{start-follows, start-offered}
use Rattle.log_laws.proofs.Ended.{finish-follows, finish-offered}
use Rattle.log_laws.proofs.Due.{Ends, own-finish}
use Rattle.log_laws.proofs.Played.{RunBus, RunWorld, steady, action_step-sound, own-start, after-sound, opening-sound}
use Rattle.bus_sound.proofs.Steady.{take-steady}
use Rattle.bus_sound.proofs.Quiet.{one, take_inbox-sound}

-- steps one after another, with the lines so far
pub all-pairs : {A : Type 0} (P : Bus × List Line → Type 0) (step : Bus → A → Bus × List Line) (xs : List A) (so_far : Bus × List Line)
    → ((q : Bus × List Line) (x : A) → Among xs x → P q → P (along step q x)) → P so_far → P (fold (along step) so_far xs)
all-pairs P step [] so_far k h = h
all-pairs P step (x ∷ xs) so_far k h = all-pairs P step xs (along step so_far x) (λ q y a. k q y (inr a)) (k so_far x (inl refl) h)

module _ (p : Scenario) where
  -- what a step brings to a bus of the scenario
  record Goes (m : Mirror) (lines : List Line) (b : Bus) : Type 0 where
    bus : RunBus p b
    offered : Offered b
    follows : Follows m p.setup lines b

  here : (m : Mirror) (lines : List Line) (b c : Bus) → b.setup ≡ p.setup → Follows m b.setup lines c → Follows m p.setup lines c
  here m lines b c e f = subst (λ s. Follows m s lines c) e f

  take-goes : (m : Mirror) (now : ℕ) (q : Bus × List Line) (n : ℕ) → Goes m q.1 q.0
      → Goes m (along (λ b node. take_inbox b now node) q n).1 (along (λ b node. take_inbox b now node) q n).0
  take-goes m now q n g = record {
    bus = steady p q.0 (take_inbox q.0 now n).0 g.bus (take-steady q.0 now n) (take_inbox-sound q.0 now n g.bus.sound);
    offered = take-offered q.0 now n g.offered;
    follows = follows-append m p.setup q.1 (take_inbox q.0 now n).1 q.0 (take_inbox q.0 now n).0 g.follows
        (here (follow p.setup m q.1) (take_inbox q.0 now n).1 q.0 (take_inbox q.0 now n).0 g.bus.setup
        (take-follows q.0 (follow p.setup m q.1) now n g.bus.sound g.follows.agrees));
  }

  action-goes : (m : Mirror) (q : Bus × List Line) (a : Action) → Acts p a → Goes m q.1 q.0
      → Goes m (along action_step q a).1 (along action_step q a).0
  action-goes m q a acts g = record {
    bus = action_step-sound p q.0 a acts g.bus;
    offered = submit-offered q.0 a.moment a.node (submission_of (q.0).setup a.item) g.offered;
    follows = follows-append m p.setup q.1 (action_step q.0 a).1 q.0 (action_step q.0 a).0 g.follows
        (here (follow p.setup m q.1) (action_step q.0 a).1 q.0 (action_step q.0 a).0 g.bus.setup
        (submit-follows q.0 (follow p.setup m q.1) a.moment a.node g.bus.sound g.follows.agrees (submission_of (q.0).setup a.item)));
  }

  pub event-goes : (w : World) (m : Mirror) (now : ℕ) (what : What) → (what ≡ Start → next_due w.bus w.now ≡ Some (at Start now))
      → (what ≡ Finish → Ends w.bus now) → RunWorld p w → Offered w.bus → Agrees m w.bus
      → Offered (event_step w now what).0 × Follows m p.setup (event_step w now what).1 (event_step w now what).0
  event-goes w m now Finish d n h f a = (
    finish-offered w.bus now f,
    here m (finish w.bus now).1 w.bus (finish w.bus now).0 h.bus.setup (finish-follows w.bus m now h.bus.sound a h.bus.live f (n refl)),
  )
  event-goes w m now (Return n) d x h f a = (
    recover-offered w.bus now n f,
    here m (recover w.bus now n).1 w.bus (recover w.bus now n).0 h.bus.setup (recover-follows w.bus m now n h.bus.sound a),
  )
  event-goes w m now Notices d n h f a =
      let g = all-pairs (λ q. Goes m q.1 q.0) action_step (filter (λ a. a.moment == now) w.ahead)
      (fold (along (λ b node. take_inbox b now node)) (w.bus, []) (takers w.bus now))
      (λ q x k i. action-goes m q x (each-All (Acts p) w.ahead x h.ahead (filter-among (λ a. a.moment == now) w.ahead x k).0) i)
      (all-pairs (λ q. Goes m q.1 q.0) (λ b node. take_inbox b now node) (takers w.bus now) (w.bus, [])
      (λ q n k i. take-goes m now q n i) (record { bus = h.bus; offered = f; follows = follows-none m p.setup w.bus a })) in
      (g.offered, g.follows)
  event-goes w m now Start d n h f a = (
    start-offered w.bus m w.now now h.bus.sound a h.bus.live (d refl) f,
    here m (start w.bus now).1 w.bus (start w.bus now).0 h.bus.setup (start-follows w.bus m w.now now h.bus.sound a h.bus.live (d refl)),
  )

  run-goes : (k : ℕ) (w : World) (m : Mirror) → RunWorld p w → Offered w.bus → Agrees m w.bus
      → Follows m p.setup (head (machine p.stop) k w) (behind (machine p.stop) k w).bus
  unfolding head behind
  run-goes zero w m h f a = follows-none m p.setup w.bus a
  run-goes (suc k) w m h f a = go (next_event p.stop w) refl (λ v x i g b. run-goes k v x i g b)
    where
      go : (o : Option Due) → next_event p.stop w ≡ o
          → ((v : World) (x : Mirror) → RunWorld p v → Offered v.bus → Agrees x v.bus
          → Follows x p.setup (head (machine p.stop) k v) (behind (machine p.stop) k v).bus)
          → Follows m p.setup (then_from [] (λ x. x.1 ++ head (machine p.stop) k x.0) (option_map (world_behind w) o))
          (then_from w (λ x. behind (machine p.stop) k x.0) (option_map (world_behind w) o)).bus
      go None e on = follows-none m p.setup w.bus a
      go (Some d) e on =
          let g = event-goes w m d.moment d.what (own-start p w d e) (own-finish p.stop w d e) h f a in
          follows-append m p.setup (event_step w d.moment d.what).1 (head (machine p.stop) k (world_behind w d).0)
          (event_step w d.moment d.what).0
          (behind (machine p.stop) k (world_behind w d).0).bus g.1
          (on (world_behind w d).0 (follow p.setup m (event_step w d.moment d.what).1) (after-sound p w d e h) g.0 g.1.agrees)

  enter-agrees : (m : Mirror) (b : Bus) (n : ℕ) → Agrees m b → Agrees m (enter b n)
  enter-agrees m b n a = record {
    nodes = a.nodes ∙ sym (map-unseen (one n (λ x. record x { live = true })) (one-unseen n (λ x. record x { live = true }) (λ x. refl))
        b.members);
    waits = a.waits;
    idle = a.idle;
    last = a.last;
    running = a.running;
  }

  all-enter : (m : Mirror) (ns : List ℕ) (b : Bus) → Agrees m b → Offered b → Agrees m (fold enter b ns) × Offered (fold enter b ns)
  all-enter m [] b a f = (a, f)
  all-enter m (n ∷ ns) b a f = all-enter m ns (enter b n) (enter-agrees m b n a) f

  pub opening-agrees : Agrees (new_mirror p.nodes) (opening p).bus × Offered (opening p).bus
  opening-agrees = all-enter (new_mirror p.nodes) p.nodes (new_bus p.setup p.nodes) (record {
    nodes = sym (map-map seen new_member p.nodes);
    waits = refl;
    idle = refl;
    last = refl;
    running = tt;
  }) tt

  -- the main theorem
  pub mirror-agrees : (k : ℕ) → IsScenario p → Follows (new_mirror p.nodes) p.setup (head (machine p.stop) k (opening p))
      (behind (machine p.stop) k (opening p)).bus
  mirror-agrees k h = run-goes k (opening p) (new_mirror p.nodes) (opening-sound p h) opening-agrees.1 opening-agrees.0

  pub lines-lawful : (k : ℕ) → IsScenario p → Within p.setup (new_mirror p.nodes) (scenario_lines k p) []
  lines-lawful k h =
      let f = mirror-agrees k h in
      within-append p.setup (new_mirror p.nodes) (head (machine p.stop) k (opening p))
      (End (status (next_event p.stop (behind (machine p.stop) k (opening p)))) (behind (machine p.stop) k (opening p)).events ∷ []) []
      (f.lawful (End (status (next_event p.stop (behind (machine p.stop) k (opening p)))) (behind (machine p.stop) k (opening p)).events
      ∷ []) (record { loss = refl; hurt = refl }))
      (refl, tt)

  pub lines-open : (k : ℕ) → IsScenario p → Opens (scenario_lines k p)
  lines-open k h = (mirror-agrees k h).opens (End (status (next_event p.stop (behind (machine p.stop) k (opening p))))
      (behind (machine p.stop) k (opening p)).events ∷ []) (record { loss = refl; hurt = refl })

-- what holds at one line
pub lawful-at : (s : Setup) (m : Mirror) (before : List Line) (line : Line) (rest : List Line) → Within s m (before ++ line ∷ rest) []
    → Lawful s (follow s m before) line rest
lawful-at s m [] line rest h = subst (λ l. Lawful s m line l) (append-nil rest) h.0
lawful-at s m (x ∷ before) line rest h = lawful-at s (Rattle.log_laws.specs.Mirror.mirror_after s m x) before line rest h.1
