-- Each action up to the stop is answered by a line, in order, and no line answers anything else.
use Rattle.std.proofs.Common.{◌≡◌, ℕ, zero, suc, ◌<◌, ◌≤◌, ◌==◌, ◌⊎◌, Bool, true, false, if◌then◌else◌, List, [], ◌∷◌, ◌++◌, map, filter, flat_map, fold, Option, Some, None, arith, refl, ap, ◌∙◌, sym, inl, inr, append_assoc, append-nil}
use Rattle.std.specs.Prelude.{option_map, option_to_list, nat_le, nat_lt}
use Rattle.std.proofs.lemmas.Bool.{both_ways, eqb-true, eq-eqb, ltb-true, lt-ltb, leb-true, leb-false, le-leb, false_from_ne_true}
use Rattle.std.proofs.lemmas.List.Elements.{filter_map-append}
use Rattle.bus_specs.specs.Bus.{Bus, Member, Request, Running, Fault, Hurt, LostNotice, FormatNotice, winner}
use Rattle.bus_specs.specs.Counters.{level}
use Rattle.bus_specs.specs.Submit.{Submission, Transmit, Keep, Discard, Wakeup, Sleep, Rate, FdRate, Declare, FormatError, Unfit, Fate, Accepted, Full, Dropped, fate, submit, submission_of, told_of, told_fate}
use Rattle.bus_specs.specs.Inbox.{take_inbox, members_at, told_notices, due_lost, due_format, due_wake}
use Rattle.bus_specs.specs.Start.{losers, discards, loser_told, start_with, start}
use Rattle.bus_specs.specs.Finish.{finish, finish_with, outcome_line, hurt_lines, state_lines, same_level, counters_after, recover}
use Rattle.bus_specs.specs.Due.{Due, What, Finish, Return, Notices, Start, rank, precedes, at, next_due}
use Rattle.frame_specs.specs.Frame.{Frame}
use Rattle.log_specs.specs.Line.{Line, On, End, Told, LostKept, LostGone}
use Rattle.log_specs.specs.Line as log
use Rattle.run_specs.specs.Run.{behind, head, then_from}
use Rattle.play_specs.specs.Scenario.{Action, Scenario, World, opening, or_asked, up_to, next_event, along, takers, action_step, moment_step, event_step, left_ahead, world_behind, status, machine, scenario_lines, scenario_status}
use Rattle.bus_sound.proofs.Among.{Among, filter-among}
use Rattle.bus_sound.proofs.Lists.{each-All}
use Rattle.bus_sound.proofs.Dues.{not-before}
use Rattle.bus_sound.proofs.Quiet.{take_inbox-sound}
use Rattle.log_laws.proofs.Rows.{map-append}
use Rattle.log_laws.proofs.Due.{within-stop}
use Rattle.log_laws.proofs.Timed.{InOrder, before-all, stays-in-order, opening-in-order, rising-lower}
use Rattle.log_laws.proofs.Played.{RunBus, RunWorld, steady, action_step-sound, after-sound, opening-sound}
use Rattle.bus_sound.proofs.Steady.{take-steady}
use Rattle.log_laws.proofs.Followed.{all-pairs}
use Rattle.log_laws.specs.Scenarios.{Acts, IsScenario}
use Rattle.log_laws.specs.Moments.{Rising, ByMoment}
use Rattle.log_laws.specs.Answers.{Asked, asked_by, asked_in, answered, asked_of, due_actions}

none-append : (xs ys : List Line) → answered xs ≡ [] → answered ys ≡ [] → answered (xs ++ ys) ≡ []
none-append xs ys h k = filter_map-append asked_in xs ys ∙ ap (λ l. l ++ answered ys) h ∙ k

none-flat : {X : Type 0} (f : X → List Line) (xs : List X) → ((x : X) → answered (f x) ≡ []) → answered (flat_map f xs) ≡ []
none-flat f [] h = refl
none-flat f (x ∷ xs) h = none-append (f x) (flat_map f xs) (h x) (none-flat f xs h)

module _ (b : Bus) (now : ℕ) where
  states-none : (r : Running) (m : Member) → answered (state_lines b now r m) ≡ []
  states-none r m = go (same_level (level m.counters) (level (counters_after r m)))
    where
      go : (t : Bool) → answered (if t then [] else On now b.setup.number m.node (log.State (level (counters_after r m))) ∷ []) ≡ []
      go true = refl
      go false = refl

  hurt-none : (h : Option Hurt) → answered (hurt_lines b now h) ≡ []
  hurt-none None = refl
  hurt-none (Some h) = refl

  outcome-none : (r : Running) (o : Option Fault) (rest : List Line) → answered rest ≡ [] → answered (outcome_line b now r o ∷ rest) ≡ []
  outcome-none r None rest h = h
  outcome-none r (Some e) rest h = h

  pub finish-none : answered (finish b now).1 ≡ []
  unfolding finish
  finish-none = go b.running
    where
      go : (o : Option Running) → answered (finish_with b now o).1 ≡ []
      go None = refl
      go (Some r) = outcome-none r r.fault (hurt_lines b now r.hurt ++ flat_map (state_lines b now r) b.members)
          (none-append (hurt_lines b now r.hurt) (flat_map (state_lines b now r) b.members) (hurt-none r.hurt)
          (none-flat (state_lines b now r) b.members (states-none r)))

  pub recover-none : (node : ℕ) → answered (recover b now node).1 ≡ []
  unfolding recover
  recover-none node = refl

  losses-none : (ls : List Request) → answered (map (λ r. On now b.setup.number r.node (loser_told b r)) ls) ≡ []
  losses-none [] = refl
  losses-none (r ∷ ls) = go (discards b r) (losses-none ls)
    where
      go : (t : Bool) → answered (map (λ r. On now b.setup.number r.node (loser_told b r)) ls) ≡ []
          → answered (On now b.setup.number r.node (if t then LostGone r.frame else LostKept r.frame) ∷ map
          (λ r. On now b.setup.number r.node (loser_told b r)) ls) ≡ []
      go true h = h
      go false h = h

  pub start-none : answered (start b now).1 ≡ []
  unfolding start
  start-none = go (winner b now)
    where
      go : (o : Option Request) → answered (start_with b now o).1 ≡ []
      go None = refl
      go (Some w) = losses-none (losers b now w.node)

  three-none : (node : ℕ) (l : Option LostNotice) (f : Option FormatNotice) (w : Option ℕ)
      → answered (map (On now b.setup.number node) (option_to_list (option_map (λ (n : LostNotice). log.ToldLost n.id) l)
      ++ option_to_list (option_map (λ (n : FormatNotice). log.ToldFormat n.bytes) f)
      ++ option_to_list (option_map (λ (n : ℕ). log.ToldWake) w))) ≡ []
  three-none node None None None = refl
  three-none node None None (Some w) = refl
  three-none node None (Some f) None = refl
  three-none node None (Some f) (Some w) = refl
  three-none node (Some l) None None = refl
  three-none node (Some l) None (Some w) = refl
  three-none node (Some l) (Some f) None = refl
  three-none node (Some l) (Some f) (Some w) = refl

  pub take-none : (node : ℕ) → answered (take_inbox b now node).1 ≡ []
  unfolding take_inbox
  take-none node = none-flat (λ m. map (On now b.setup.number node) (told_notices now m)) (members_at b node)
      (λ m. three-none node (due_lost now m) (due_format now m) (due_wake now m))

  fate-asked : (f : Frame) (x : Fate) → asked_by (told_fate f x) ≡ Some (Transmit f)
  fate-asked f Accepted = refl
  fate-asked f Full = refl
  fate-asked f Dropped = refl

  told-asked : (node : ℕ) (what : Submission) → asked_by (told_of b node what) ≡ Some what
  told-asked node (Transmit f) = fate-asked f (fate b node)
  told-asked node Keep = refl
  told-asked node Discard = refl
  told-asked node Wakeup = refl
  told-asked node Sleep = refl
  told-asked node (Rate v) = refl
  told-asked node (FdRate v) = refl
  told-asked node (Declare l) = refl
  told-asked node (FormatError bytes) = refl
  told-asked node (Unfit bytes) = refl

  pub submit-asked : (node : ℕ) (what : Submission) → answered ((submit b now node what).1 ∷ []) ≡ record
      { moment = now; node = node; what = what } ∷ []
  unfolding submit
  submit-asked node what = rw (told-asked node what) refl

-- actions that rise from after this moment
all-later : (now from : ℕ) (as' : List Action) → Rising from as' → now < from
    → (filter (λ a. a.moment == now) as' ≡ []) × (filter (λ a. nat_lt now a.moment) as' ≡ as')
all-later now from [] h l = (refl, refl)
all-later now from (a ∷ as') h l =
    let m : now < a.moment = omega (arith, h.0, l) in
    let r = all-later now a.moment as' h.1 m in
    let n : (a.moment == now) ≡ false = false_from_ne_true (a.moment == now) (λ t. let s = eqb-true a.moment now t in omega (arith, s, m))
    in
    (rw n r.0, rw (lt-ltb now a.moment m) (ap (λ z. a ∷ z) r.1))

module _ (stop : ℕ) where
  up_to_stop : List Action → List Action
  up_to_stop as' = filter (λ a. nat_le a.moment stop) as'

  split-now : (now : ℕ) (as' : List Action) → now ≤ stop → Rising now as'
      → filter (λ a. a.moment == now) as' ++ up_to_stop (filter (λ a. nat_lt now a.moment) as') ≡ up_to_stop as'
  unfolding up_to_stop
  split-now now [] l h = refl
  split-now now (a ∷ as') l h = go (a.moment == now) refl (λ r. split-now now as' l r)
    where
      go : (t : Bool) → (a.moment == now) ≡ t
          → (Rising now as' → filter (λ a. a.moment == now) as' ++ filter (λ a. nat_le a.moment stop)
          (filter (λ a. nat_lt now a.moment) as') ≡ filter (λ a. nat_le a.moment stop) as')
          → filter (λ a. a.moment == now) (a ∷ as') ++ filter (λ a. nat_le a.moment stop) (filter (λ a. nat_lt now a.moment) (a ∷ as'))
          ≡ filter (λ a. nat_le a.moment stop) (a ∷ as')
      go true e on =
          let s : a.moment ≡ now = eqb-true a.moment now e in
          let in-time : nat_le a.moment stop ≡ true = le-leb a.moment stop (omega (arith, s, l)) in
          let not-later : nat_lt now a.moment ≡ false = false_from_ne_true (nat_lt now a.moment)
          (λ t. let k = ltb-true now a.moment t in omega (arith, s, k)) in
          rw (e, not-later, in-time) (ap (λ z. a ∷ z) (on (rising-lower now a.moment as' (omega (arith, s)) h.1)))
      go false e on =
          let m : now < a.moment = apart now a.moment h.0 (λ s. both_ways (a.moment == now) e (eq-eqb a.moment now s)) in
          let r = all-later now a.moment as' h.1 m in
          let first : filter (λ (x : Action). x.moment == now) (a ∷ as') ≡ [] = rw e r.0 in
          let second : filter (λ (x : Action). nat_lt now x.moment) (a ∷ as') ≡ a ∷ as' = (rw (lt-ltb now a.moment m) (ap (λ z. a ∷ z) r.1))
          in
          ap (λ z. z ++ filter (λ (x : Action). nat_le x.moment stop) (filter (λ (x : Action). nat_lt now x.moment) (a ∷ as'))) first
          ∙ ap (filter (λ (x : Action). nat_le x.moment stop)) second
        where
          apart : (m n : ℕ) → m ≤ n → (n ≡ m → ⊥) → m < n
          apart m n l ne = grind (arith, ne)

  none-up-to : (from : ℕ) (as' : List Action) → Rising from as' → stop < from → up_to_stop as' ≡ []
  unfolding up_to_stop
  none-up-to from [] h l = refl
  none-up-to from (a ∷ as') h l =
      let m : stop < a.moment = omega (arith, h.0, l) in
      let n : nat_le a.moment stop ≡ false = false_from_ne_true (nat_le a.moment stop)
      (λ t. let k = leb-true a.moment stop t in omega (arith, k, m)) in
      rw n (none-up-to a.moment as' h.1 m)

  -- where nothing happens up to the stop, nothing is asked up to it
  nothing-asked : (w : World) → next_event stop w ≡ None → Rising w.now w.ahead → up_to_stop w.ahead ≡ []
  unfolding next_event up_to_stop
  nothing-asked w e h = go w.ahead h (next_due w.bus w.now) e
    where
      after : (d : Due) → up_to stop (Some d) ≡ None → stop < d.moment
      after d k = by (nat_le d.moment stop) refl k
        where
          by : (t : Bool) → nat_le d.moment stop ≡ t → (if t then Some d else None) ≡ None → stop < d.moment
          by true p q = absurd cc
          by false p q = leb-false d.moment stop p

      late : (a : Action) (c : Due) (t : Bool) → precedes (at Notices a.moment) c ≡ t
          → up_to stop (if t then Some (at Notices a.moment) else Some c) ≡ None → stop < a.moment
      late a c true p k = after (at Notices a.moment) k
      late a c false p k = by (not-before (at Notices a.moment) c p) (after c k)
        where
          by : (c.moment < a.moment) ⊎ ((c.moment ≡ a.moment) × (rank c.what ≤ 2)) → stop < c.moment → stop < a.moment
          by (inl l) m = omega (arith, l, m)
          by (inr l) m = omega (arith, l.0, m)

      head-late : (a : Action) (as' : List Action) (o : Option Due) → up_to stop (or_asked o (a ∷ as')) ≡ None → stop < a.moment
      head-late a as' None k = after (at Notices a.moment) k
      head-late a as' (Some c) k = late a c (precedes (at Notices a.moment) c) refl k

      go : (as' : List Action) → Rising w.now as' → (o : Option Due) → up_to stop (or_asked o as') ≡ None
          → filter (λ a. nat_le a.moment stop) as' ≡ []
      go [] r o k = refl
      go (a ∷ as') r o k = let l = head-late a as' o k in none-up-to a.moment (a ∷ as') (omega arith, r.1) l

module _ (p : Scenario) where
  abbrev asked_up_to : List Action → List Asked
  asked_up_to as' = map (asked_of p) (filter (λ a. nat_le a.moment p.stop) as')

  step-answered : (b : Bus) (a : Action) → b.setup ≡ p.setup → answered (action_step b a).1 ≡ asked_of p a ∷ []
  step-answered b a e = submit-asked b a.moment a.node (submission_of b.setup a.item)
      ∙ ap (λ s. record { moment = a.moment; node = a.node; what = submission_of s a.item } ∷ []) e

  actions-answered : (xs : List Action) (q : Bus × List Line) → ((x : Action) → Among xs x → Acts p x) → RunBus p q.0
      → answered (fold (along action_step) q xs).1 ≡ answered q.1 ++ map (asked_of p) xs
  actions-answered [] q k h = sym (append-nil (answered q.1))
  actions-answered (x ∷ xs) q k h =
      actions-answered xs (along action_step q x) (λ y c. k y (inr c)) (action_step-sound p q.0 x (k x (inl refl)) h)
      ∙ ap (λ l. l ++ map (asked_of p) xs) (filter_map-append asked_in q.1 (action_step q.0 x).1 ∙ ap (λ l. answered q.1 ++ l)
      (step-answered q.0 x h.setup))
      ∙ append_assoc (answered q.1) (asked_of p x ∷ []) (map (asked_of p) xs)

  record Silent (q : Bus × List Line) : Type 0 where
    bus : RunBus p q.0
    none : answered q.1 ≡ []

  moment-answered : (w : World) (now : ℕ) → RunWorld p w → answered (moment_step w now).1 ≡ map (asked_of p)
      (filter (λ a. a.moment == now) w.ahead)
  moment-answered w now h =
      let s = all-pairs Silent (λ b node. take_inbox b now node) (takers w.bus now) (w.bus, [])
      (λ q n k c. record {
        bus = steady p q.0 (take_inbox q.0 now n).0 c.bus (take-steady q.0 now n) (take_inbox-sound q.0 now n c.bus.sound);
        none = none-append q.1 (take_inbox q.0 now n).1 c.none (take-none q.0 now n);
      }) (record { bus = h.bus; none = refl }) in
      actions-answered (filter (λ a. a.moment == now) w.ahead) (fold (along (λ b node. take_inbox b now node)) (w.bus, [])
      (takers w.bus now))
      (λ x c. each-All (Acts p) w.ahead x h.ahead (filter-among (λ (a : Action). a.moment == now) w.ahead x c).0) s.bus
      ∙ ap (λ l. l ++ map (asked_of p) (filter (λ a. a.moment == now) w.ahead)) s.none

  event-answered : (w : World) (now : ℕ) (what : What) → RunWorld p w → now ≤ p.stop → Rising now w.ahead
      → answered (event_step w now what).1 ++ asked_up_to (left_ahead w now what) ≡ asked_up_to w.ahead
  unfolding up_to_stop
  event-answered w now Finish h l r = ap (λ z. z ++ asked_up_to w.ahead) (finish-none w.bus now)
  event-answered w now (Return n) h l r = ap (λ z. z ++ asked_up_to w.ahead) (recover-none w.bus now n)
  event-answered w now Start h l r = ap (λ z. z ++ asked_up_to w.ahead) (start-none w.bus now)
  event-answered w now Notices h l r =
      ap (λ z. z ++ asked_up_to (filter (λ a. nat_lt now a.moment) w.ahead)) (moment-answered w now h)
      ∙ sym (map-append (asked_of p) (filter (λ a. a.moment == now) w.ahead)
      (filter (λ a. nat_le a.moment p.stop) (filter (λ a. nat_lt now a.moment) w.ahead)))
      ∙ ap (map (asked_of p)) (split-now p.stop now w.ahead l r)

  run-answered : (k : ℕ) (w : World) → RunWorld p w → InOrder w
      → answered (head (machine p.stop) k w) ++ asked_up_to (behind (machine p.stop) k w).ahead ≡ asked_up_to w.ahead
  unfolding head behind
  run-answered zero w h o = refl
  run-answered (suc k) w h i = go (next_event p.stop w) refl (λ v g j. run-answered k v g j)
    where
      go : (o : Option Due) → next_event p.stop w ≡ o
          → ((v : World) → RunWorld p v → InOrder v → answered (head (machine p.stop) k v) ++ asked_up_to
          (behind (machine p.stop) k v).ahead ≡ asked_up_to v.ahead)
          → answered (then_from [] (λ x. x.1 ++ head (machine p.stop) k x.0) (option_map (world_behind w) o))
          ++ asked_up_to (then_from w (λ x. behind (machine p.stop) k x.0) (option_map (world_behind w) o)).ahead ≡ asked_up_to w.ahead
      go None e on = refl
      go (Some d) e on =
          let b = before-all p.stop w d e in
          ap (λ z. z ++ asked_up_to (behind (machine p.stop) k (world_behind w d).0).ahead)
          (filter_map-append asked_in (event_step w d.moment d.what).1 (head (machine p.stop) k (world_behind w d).0))
          ∙ append_assoc (answered (event_step w d.moment d.what).1) (answered (head (machine p.stop) k (world_behind w d).0))
          (asked_up_to (behind (machine p.stop) k (world_behind w d).0).ahead)
          ∙ ap (λ z. answered (event_step w d.moment d.what).1 ++ z)
          (on (world_behind w d).0 (after-sound p w d e h) (stays-in-order p w d e i))
          ∙ event-answered w d.moment d.what h (within-stop p.stop w d e) (b.asked i.ahead)

  run-in-order : (k : ℕ) (w : World) → InOrder w → InOrder (behind (machine p.stop) k w)
  unfolding behind
  run-in-order zero w i = i
  run-in-order (suc k) w i = go (next_event p.stop w) refl (λ v j. run-in-order k v j)
    where
      go : (o : Option Due) → next_event p.stop w ≡ o → ((v : World) → InOrder v → InOrder (behind (machine p.stop) k v))
          → InOrder (then_from w (λ x. behind (machine p.stop) k x.0) (option_map (world_behind w) o))
      go None e on = i
      go (Some d) e on = on (world_behind w d).0 (stays-in-order p w d e i)

  pub each-answered : (k : ℕ) → IsScenario p → ByMoment p → scenario_status k p ≡ 0 → answered (scenario_lines k p) ≡ due_actions p
  unfolding up_to_stop
  each-answered k h b s =
      let w = behind (machine p.stop) k (opening p) in
      let none : next_event p.stop w ≡ None = over (next_event p.stop w) s in
      let rest : filter (λ (a : Action). nat_le a.moment p.stop) w.ahead ≡ [] = nothing-asked p.stop w none
      (run-in-order k (opening p) (opening-in-order p b)).ahead in
      filter_map-append asked_in (head (machine p.stop) k (opening p)) (End (status (next_event p.stop w)) w.events ∷ [])
      ∙ ap (λ l. answered (head (machine p.stop) k (opening p)) ++ map (asked_of p) l) (sym rest)
      ∙ run-answered k (opening p) (opening-sound p h) (opening-in-order p b)
    where
      over : (o : Option Due) → status o ≡ 0 → o ≡ None
      over None e = refl
      over (Some d) e = absurd (omega (arith, e))
