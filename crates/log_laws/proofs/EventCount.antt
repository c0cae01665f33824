-- The end line tells as many events as stand before it.
use Rattle.std.proofs.Common.{◌≡◌, ℕ, zero, suc, ◌+◌, ◌≤◌, ◌==◌, ◌⊎◌, Bool, true, false, cond, if◌then◌else◌, List, [], ◌∷◌, ◌++◌, map, filter, flat_map, fold, IfSome, Option, Some, None, is_some, arith, refl, ap, ◌∙◌, sym, subst, inl, inr, eq-eqb}
use Rattle.std.specs.Prelude.{option_map, option_to_list, nat_lt, ⊤}
use Rattle.std.proofs.lemmas.Bool.{both_ways, eqb-true, ltb-true, false_from_ne_true}
use Rattle.std.proofs.lemmas.List.Sums.{fold-append}
use Rattle.frame_specs.specs.Frame.{Frame}
use Rattle.bus_specs.specs.Bus.{Bus, Member, Request, Running, Fault, Hurt, LostNotice, FormatNotice, winner, is}
use Rattle.bus_specs.specs.Counters.{level}
use Rattle.bus_specs.specs.Submit.{Submission, Transmit, Keep, Discard, Wakeup, Sleep, Rate, FdRate, Declare, FormatError, Unfit, Fate, Accepted, Full, Dropped, fate, submit, submission_of, told_of, told_fate}
use Rattle.bus_specs.specs.Inbox.{take_inbox, members_at, told_notices, due_lost, due_format, due_wake, has_notice}
use Rattle.bus_specs.specs.Start.{losers, discards, loser_told, start_with, start}
use Rattle.bus_specs.specs.Finish.{finish, finish_with, outcome_line, hurt_lines, state_lines, same_level, counters_after, recover}
use Rattle.bus_specs.specs.Due.{Due, What, Finish, Return, Notices, Start, rank, at, next_due}
use Rattle.log_specs.specs.Line.{Line, On, Down, Over, End, Told, LostKept, LostGone}
use Rattle.log_specs.specs.Line as log
use Rattle.run_specs.specs.Run.{behind, head, then_from}
use Rattle.play_specs.specs.Scenario.{Action, Scenario, World, opening, next_event, along, takers, action_step, moment_step, event_step, left_ahead, world_behind, status, machine, scenario_lines}
use Rattle.bus_sound.proofs.Among.{Among, filter-among}
use Rattle.bus_sound.proofs.Lists.{each-All}
use Rattle.bus_sound.proofs.Consequences.{start-wins}
use Rattle.bus_sound.proofs.Quiet.{take_inbox-sound}
use Rattle.log_laws.specs.Scenarios.{Acts, IsScenario}
use Rattle.log_laws.specs.Moments.{Rising, ByMoment}
use Rattle.log_laws.specs.Events.{Count, one_event, lines_at, count_told, count_line, events_in, EndTellsEvents}
use Rattle.log_laws.proofs.Moments.{Some_lines}
use Rattle.log_laws.proofs.Due.{Asked, due-or-asked, finish-due, notices-due, event-some}
use Rattle.log_laws.proofs.Timed.{InOrder, stays-in-order, opening-in-order, rising-filter}
use Rattle.log_laws.proofs.Left.{last-same}
use Rattle.log_laws.proofs.Played.{RunBus, RunWorld, steady, action_step-sound, after-sound, opening-sound}
use Rattle.bus_sound.proofs.Steady.{take-steady}
use Rattle.log_laws.proofs.Followed.{all-pairs}
use Rattle.log_laws.proofs.Freshness.{NoNotice, takes-fewer, all-take, submit-none}

-- a line of a node at this moment
abbrev pub tells_node : Told → Bool
tells_node (log.Start f) = false
tells_node (LostKept f) = false
tells_node (LostGone f) = false
tells_node (log.Done f ns) = false
tells_node (log.Fail f kind by) = false
tells_node (log.Hurt kind) = false
tells_node (log.State l) = false
tells_node log.Back = false
tells_node other = true

abbrev pub IsNodeLine : ℕ → Line → Type 0
IsNodeLine now (On t bus node told) = (t ≡ now) × (tells_node told ≡ true)
IsNodeLine now (Down t node cause) = ⊥
IsNodeLine now (Over t node) = ⊥
IsNodeLine now (End status events) = ⊥

abbrev pub NodeLines : ℕ → List Line → Type 0
NodeLines now [] = ⊤
NodeLines now (line ∷ lines) = IsNodeLine now line × NodeLines now lines

nodes-append : (now : ℕ) (xs ys : List Line) → NodeLines now xs → NodeLines now ys → NodeLines now (xs ++ ys)
nodes-append now [] ys h k = k
nodes-append now (x ∷ xs) ys h k = (h.0, nodes-append now xs ys h.1 k)

nodes-flat : {X : Type 0} (now : ℕ) (f : X → List Line) (xs : List X) → ((x : X) → NodeLines now (f x)) → NodeLines now (flat_map f xs)
nodes-flat now f [] h = tt
nodes-flat now f (x ∷ xs) h = nodes-append now (f x) (flat_map f xs) (h x) (nodes-flat now f xs h)

counts-node : (c : Count) (t : ℕ) (told : Told) → tells_node told ≡ true → count_told c t told ≡ lines_at c t
counts-node c t (log.Start f) e = absurd cc
counts-node c t (LostKept f) e = absurd cc
counts-node c t (LostGone f) e = absurd cc
counts-node c t (log.Done f ns) e = absurd cc
counts-node c t (log.Fail f kind by) e = absurd cc
counts-node c t (log.Hurt kind) e = absurd cc
counts-node c t (log.State l) e = absurd cc
counts-node c t log.Back e = absurd cc
counts-node c t other e = refl

counts-line : (c : Count) (now : ℕ) (line : Line) → IsNodeLine now line → count_line c line ≡ lines_at c now
counts-line c now (On t bus node told) h = counts-node c t told h.1 ∙ ap (lines_at c) h.0
counts-line c now (Down t node cause) h = absurd h
counts-line c now (Over t node) h = absurd h
counts-line c now (End status events) h = absurd h

goes-on : (c : Count) (now : ℕ) (lines : List Line) → is now c.open_at ≡ true → NodeLines now lines → fold count_line c lines ≡ c
goes-on c now [] o h = refl
goes-on c now (line ∷ lines) o h = ap (λ x. fold count_line x lines) (counts-line c now line h.0 ∙ rw o refl) ∙ goes-on c now lines o h.1

counts-one : (c : Count) (now : ℕ) (lines : List Line) → is now c.open_at ≡ false → Some_lines lines → NodeLines now lines
    → fold count_line c lines ≡ record { events = c.events + 1; open_at = Some now }
counts-one c now [] o s h = absurd s
counts-one c now (line ∷ lines) o s h =
    ap (λ x. fold count_line x lines) (counts-line c now line h.0 ∙ rw o refl)
    ∙ goes-on (record { events = c.events + 1; open_at = Some now }) now lines (eq-eqb now now refl) h.1

module _ (b : Bus) (now : ℕ) where
  three-nodes : (node : ℕ) (l : Option LostNotice) (f : Option FormatNotice) (w : Option ℕ)
      → NodeLines now (map (On now b.setup.number node) (option_to_list (option_map (λ (n : LostNotice). log.ToldLost n.id) l)
      ++ option_to_list (option_map (λ (n : FormatNotice). log.ToldFormat n.bytes) f)
      ++ option_to_list (option_map (λ (n : ℕ). log.ToldWake) w)))
  three-nodes node None None None = tt
  three-nodes node None None (Some w) = ((refl, refl), tt)
  three-nodes node None (Some f) None = ((refl, refl), tt)
  three-nodes node None (Some f) (Some w) = ((refl, refl), ((refl, refl), tt))
  three-nodes node (Some l) None None = ((refl, refl), tt)
  three-nodes node (Some l) None (Some w) = ((refl, refl), ((refl, refl), tt))
  three-nodes node (Some l) (Some f) None = ((refl, refl), ((refl, refl), tt))
  three-nodes node (Some l) (Some f) (Some w) = ((refl, refl), ((refl, refl), ((refl, refl), tt)))

  take-nodes : (node : ℕ) → NodeLines now (take_inbox b now node).1
  unfolding take_inbox
  take-nodes node = nodes-flat now (λ m. map (On now b.setup.number node) (told_notices now m)) (members_at b node)
      (λ m. three-nodes node (due_lost now m) (due_format now m) (due_wake now m))

  fate-node : (f : Frame) (x : Fate) → tells_node (told_fate f x) ≡ true
  fate-node f Accepted = refl
  fate-node f Full = refl
  fate-node f Dropped = refl

  told-node : (node : ℕ) (what : Submission) → tells_node (told_of b node what) ≡ true
  told-node node (Transmit f) = fate-node f (fate b node)
  told-node node Keep = refl
  told-node node Discard = refl
  told-node node Wakeup = refl
  told-node node Sleep = refl
  told-node node (Rate v) = refl
  told-node node (FdRate v) = refl
  told-node node (Declare l) = refl
  told-node node (FormatError bytes) = refl
  told-node node (Unfit bytes) = refl

  submit-nodes : (node : ℕ) (what : Submission) → NodeLines now ((submit b now node what).1 ∷ [])
  unfolding submit
  submit-nodes node what = ((refl, told-node node what), tt)

  -- what belongs to the event before it
  states-belong : (c : Count) (r : Running) (ms : List Member) → c.open_at ≡ None
      → fold count_line c (flat_map (state_lines b now r) ms) ≡ c
  states-belong c r [] o = refl
  states-belong c r (m ∷ ms) o = fold-append count_line c (state_lines b now r m) (flat_map (state_lines b now r) ms)
      ∙ ap (λ x. fold count_line x (flat_map (state_lines b now r) ms)) (go (same_level (level m.counters) (level (counters_after r m))))
      ∙ states-belong c r ms o
    where
      go : (t : Bool) → fold count_line c (if t then [] else On now b.setup.number m.node (log.State (level (counters_after r m))) ∷ []) ≡ c
      go true = refl
      go false = ap (λ x. record { events = c.events; open_at = x }) (sym o)

  hurt-belongs : (c : Count) (h : Option Hurt) → c.open_at ≡ None → fold count_line c (hurt_lines b now h) ≡ c
  hurt-belongs c None o = refl
  hurt-belongs c (Some h) o = ap (λ x. record { events = c.events; open_at = x }) (sym o)

  losses-belong : (c : Count) (ls : List Request) → c.open_at ≡ None
      → fold count_line c (map (λ r. On now b.setup.number r.node (loser_told b r)) ls) ≡ c
  losses-belong c [] o = refl
  losses-belong c (r ∷ ls) o = ap (λ x. fold count_line x (map (λ r. On now b.setup.number r.node (loser_told b r)) ls)) (go (discards b r))
      ∙ losses-belong c ls o
    where
      go : (t : Bool) → count_told c now (if t then LostGone r.frame else LostKept r.frame) ≡ c
      go true = ap (λ x. record { events = c.events; open_at = x }) (sym o)
      go false = ap (λ x. record { events = c.events; open_at = x }) (sym o)

  outcome-one : (c : Count) (r : Running) (o : Option Fault) → count_line c (outcome_line b now r o) ≡ one_event c
  outcome-one c r None = refl
  outcome-one c r (Some e) = refl

  finish-one : (c : Count) → is_some b.running ≡ true → fold count_line c (finish b now).1 ≡ one_event c
  unfolding finish
  finish-one c s = go b.running s
    where
      go : (o : Option Running) → is_some o ≡ true → fold count_line c (finish_with b now o).1 ≡ one_event c
      go None s = absurd (both_ways false refl s)
      go (Some r) s = ap (λ x. fold count_line x (hurt_lines b now r.hurt ++ flat_map (state_lines b now r) b.members))
          (outcome-one c r r.fault)
          ∙ fold-append count_line (one_event c) (hurt_lines b now r.hurt) (flat_map (state_lines b now r) b.members)
          ∙ ap (λ x. fold count_line x (flat_map (state_lines b now r) b.members)) (hurt-belongs (one_event c) r.hurt refl)
          ∙ states-belong (one_event c) r b.members refl

  recover-one : (c : Count) (node : ℕ) → fold count_line c (recover b now node).1 ≡ one_event c
  unfolding recover
  recover-one c node = refl

  start-one : (c : Count) → is_some (winner b now) ≡ true → fold count_line c (start b now).1 ≡ one_event c
  unfolding start
  start-one c s = go (winner b now) s
    where
      go : (o : Option Request) → is_some o ≡ true → fold count_line c (start_with b now o).1 ≡ one_event c
      go None s = absurd (both_ways false refl s)
      go (Some w) s = losses-belong (one_event c) (losers b now w.node) refl

rising-later : (now from : ℕ) (as' : List Action) → Rising from as' → Rising (now + 1) (filter (λ a. nat_lt now a.moment) as')
rising-later now from [] h = tt
rising-later now from (a ∷ as') h = go (nat_lt now a.moment) refl (rising-later now a.moment as' h.1)
  where
    go : (t : Bool) → nat_lt now a.moment ≡ t → Rising (now + 1) (filter (λ a. nat_lt now a.moment) as')
        → Rising (now + 1) (cond t (a ∷ filter (λ a. nat_lt now a.moment) as') (filter (λ a. nat_lt now a.moment) as'))
    go true e k = let l = ltb-true now a.moment e in (omega (arith, l), rising-filter (λ a. nat_lt now a.moment) a.moment as' h.1)
    go false e k = k

-- nothing of a node comes at this moment any more
record Fresh (now : ℕ) (w : World) : Type 0 where
  none : NoNotice now w.bus
  ahead : Rising (now + 1) w.ahead

module _ (p : Scenario) (bit : 1 ≤ p.setup.nominal) where
  pub record Lines (now : ℕ) (q : Bus × List Line) : Type 0 where
    pub bus : RunBus p q.0
    pub lines : NodeLines now q.1

  pub record Renewed (now : ℕ) (q : Bus × List Line) : Type 0 where
    pub lines : Lines now q
    pub none : NoNotice now q.0

  pub moment-renews : (w : World) (now : ℕ) → RunWorld p w → Renewed now (moment_step w now)
  moment-renews w now h =
      let taken = all-pairs (Lines now) (λ b node. take_inbox b now node) (takers w.bus now) (w.bus, [])
      (λ q n k c. record {
        bus = steady p q.0 (take_inbox q.0 now n).0 c.bus (take-steady q.0 now n) (take_inbox-sound q.0 now n c.bus.sound);
        lines = nodes-append now q.1 (take_inbox q.0 now n).1 c.lines (take-nodes q.0 now n);
      }) (record { bus = h.bus; lines = tt }) in
      all-pairs (Renewed now) action_step (filter (λ a. a.moment == now) w.ahead)
      (fold (along (λ b node. take_inbox b now node)) (w.bus, []) (takers w.bus now))
      (λ q x k c.
      let f = filter-among (λ (a : Action). a.moment == now) w.ahead x k in
      let there : x.moment ≡ now = eqb-true x.moment now f.1 in
      record {
        lines = record {
          bus = action_step-sound p q.0 x (each-All (Acts p) w.ahead x h.ahead f.0) c.lines.bus;
          lines = nodes-append now q.1 (action_step q.0 x).1 c.lines.lines
              (subst (λ t. NodeLines t (action_step q.0 x).1) there (submit-nodes q.0 x.moment x.node (submission_of (q.0).setup x.item)));
        };
        none = subst (λ t. NoNotice t (action_step q.0 x).0) there
            (submit-none x.moment q.0 x.node (submission_of (q.0).setup x.item) (subst (λ s. 1 ≤ s.nominal) (sym c.lines.bus.setup) bit)
            (subst (λ t. NoNotice t q.0) (sym there) c.none));
      })
      (record { lines = taken; none = λ m a. only m (takes-fewer now (takers w.bus now) (w.bus, []) (all-take now w.bus) m a) })
    where
      only : (m : Member) → (has_notice now m ≡ false) ⊎ Among [] m.node → has_notice now m ≡ false
      only m (inl e) = e
      only m (inr a) = absurd a

  -- lines that go on are of a moment at which no more come
  abbrev Closed : Count → World → Type 0
  Closed c w = IfSome c.open_at (λ t. Fresh t w)

  not-again : (w : World) (d : Due) (c : Count) → next_event p.stop w ≡ Some d → d.what ≡ Notices → Closed c w
      → is d.moment c.open_at ≡ false
  not-again w d c e q o = go c.open_at o
    where
      late : (t : ℕ) → Fresh t w → (t ≡ d.moment) → (next_due w.bus w.now ≡ Some d) ⊎ Asked w d → ⊥
      late t f s (inl k) =
          let n = notices-due w.bus w.now d k q in
          both_ways (has_notice t n.member) (f.none n.member n.among) (subst (λ x. has_notice x n.member ≡ true) (sym s) n.has)
      late t f s (inr k) =
          let l : t + 1 ≤ k.action.moment = (subst (Rising (t + 1)) k.ahead f.ahead).0 in
          let m : d.moment ≡ k.action.moment = ap (λ (x : Due). x.moment) k.due in omega (arith, l, m, s)

      go : (x : Option ℕ) → IfSome x (λ t. Fresh t w) → is d.moment x ≡ false
      go None f = refl
      go (Some t) f = false_from_ne_true (t == d.moment) (λ u. late t f (eqb-true t d.moment u) (due-or-asked p.stop w d e))

  record Counts (w : World) (d : Due) (c : Count) : Type 0 where
    after : Count
    counted : fold count_line c (event_step w d.moment d.what).1 ≡ after
    more : after.events ≡ c.events + 1
    closed : Closed after (world_behind w d).0

  event-counts : (w : World) (d : Due) (c : Count) → next_event p.stop w ≡ Some d → RunWorld p w → InOrder w → Closed c w → Counts w d c
  event-counts w d c e h i o = go d.what refl (due-or-asked p.stop w d e)
    where
      whole : (what : What) → d.what ≡ what → (x : Count) → fold count_line c (event_step w d.moment what).1 ≡ x → x.events ≡ c.events + 1
          → IfSome x.open_at (λ t. Fresh t (record {
            events = w.events + 1;
            now = d.moment;
            ahead = left_ahead w d.moment what;
            bus
                = (event_step w d.moment what).0;
          })) → Counts w d c
      whole what q x f m k = record {
        after = x;
        counted = subst (λ y. fold count_line c (event_step w d.moment y).1 ≡ x) (sym q) f;
        more = m;
        closed = subst (λ y. IfSome x.open_at (λ t. Fresh t (record {
          events = w.events + 1;
          now = d.moment;
          ahead = left_ahead w d.moment
              y;
          bus = (event_step w d.moment y).0;
        }))) (sym q) k;
      }

      kind : Asked w d → rank d.what ≡ 2
      kind k = ap (λ (x : Due). rank x.what) k.due

      go : (what : What) → d.what ≡ what → (next_due w.bus w.now ≡ Some d) ⊎ Asked w d → Counts w d c
      go Finish q (inl k) = let r = finish-due w.bus w.now d k q in
          whole Finish q (one_event c) (finish-one w.bus d.moment c (ap is_some r.runs)) refl tt
      go Finish q (inr k) = absurd (let z : rank d.what ≡ 0 = ap rank q in omega (arith, z, kind k))
      go (Return n) q k = whole (Return n) q (one_event c) (recover-one w.bus d.moment c n) refl tt
      go Start q (inl k) = whole Start q (one_event c) (start-one w.bus d.moment c
          (start-wins w.bus w.now d.moment (k ∙ ap (λ x. Some (at x d.moment)) q))) refl tt
      go Start q (inr k) = absurd (let z : rank d.what ≡ 3 = ap rank q in omega (arith, z, kind k))
      go Notices q k =
          let r = moment-renews w d.moment h in
          whole Notices q (record { events = c.events + 1; open_at = Some d.moment })
          (counts-one c d.moment (moment_step w d.moment).1 (not-again w d c e q o)
          (subst (λ x. Some_lines (event_step w d.moment x).1) q (event-some p.stop w d e)) r.lines.lines)
          refl (record { none = r.none; ahead = rising-later d.moment w.now w.ahead i.ahead })

  run-counts : (k : ℕ) (w : World) (c : Count) → RunWorld p w → InOrder w → Closed c w
      → (fold count_line c (head (machine p.stop) k w)).events + w.events ≡ (behind (machine p.stop) k w).events + c.events
  unfolding head behind
  run-counts zero w c h i o = omega arith
  run-counts (suc k) w c h i o = go (next_event p.stop w) refl (λ v x g j q. run-counts k v x g j q)
    where
      go : (u : Option Due) → next_event p.stop w ≡ u
          → ((v : World) (x : Count) → RunWorld p v → InOrder v → Closed x v
          → (fold count_line x (head (machine p.stop) k v)).events + v.events ≡ (behind (machine p.stop) k v).events + x.events)
          → (fold count_line c (then_from [] (λ x. x.1 ++ head (machine p.stop) k x.0) (option_map (world_behind w) u))).events + w.events
          ≡ (then_from w (λ x. behind (machine p.stop) k x.0) (option_map (world_behind w) u)).events + c.events
      go None e on = omega arith
      go (Some d) e on =
          let n = event-counts w d c e h i o in
          let r = on (world_behind w d).0 n.after (after-sound p w d e h) (stays-in-order p w d e i) n.closed in
          let s : fold count_line c ((event_step w d.moment d.what).1 ++ head (machine p.stop) k (world_behind w d).0) ≡ fold count_line
          n.after (head (machine p.stop) k (world_behind w d).0) =
          fold-append count_line c (event_step w d.moment d.what).1 (head (machine p.stop) k (world_behind w d).0)
          ∙ ap (λ x. fold count_line x (head (machine p.stop) k (world_behind w d).0)) n.counted in
          let t = ap (λ (x : Count). x.events) s in
          omega (arith, r, n.more, t)

  pub end-tells : (k : ℕ) → IsScenario p → ByMoment p → EndTellsEvents (scenario_lines k p)
  end-tells k h b before st events e =
      let w = behind (machine p.stop) k (opening p) in
      let r = last-same (head (machine p.stop) k (opening p)) before (End (status (next_event p.stop w)) w.events) (End st events) e in
      let same : w.events ≡ events = number r.1 in
      let c = run-counts k (opening p) (record { events = 0; open_at = None }) (opening-sound p h) (opening-in-order p b) tt in
      let all : events_in (head (machine p.stop) k (opening p)) ≡ events_in before = ap events_in r.0 in
      omega (arith, same, c, all)
    where
      number : {s t n m : ℕ} → End s n ≡ End t m → n ≡ m
      number q = cc
