-- The first event by the parts of a network is the next one.
use Rattle.std.proofs.Common.{◌≡◌, ◌⊎◌, ◌<◌, ◌≤◌, ℕ, ◌==◌, ◌&&◌, ◌||◌, Bool, true, false, if◌then◌else◌, List, ◌++◌, flat_map, length, map, Option, Some, None, is_some, nat_le, arith, sym, refl, ap, ◌∙◌, subst, inl, inr}
use Rattle.std.specs.Prelude.{option_map, option_to_list, IfSome}
use Rattle.std.specs.List.{filter_map}
use Rattle.std.proofs.lemmas.List.{length-map}
use Rattle.std.proofs.lemmas.Bool.{both_ways, false_from_ne_true, or_cases, or_left, and_parts, eqb-true, leb-true, le-leb, lt-leb}
use Rattle.bus_specs.specs.Bus.{Bus, Member, LostNotice, FormatNotice}
use Rattle.bus_specs.specs.Due as due
use Rattle.bus_specs.specs.Due.{notice_moments, dues}
use Rattle.bus_specs.specs.Inbox as inbox
use Rattle.bus_specs.specs.Inbox.{due_lost, due_format, due_wake, has_notice, has_inbox, members_at}
use Rattle.bus_specs.specs.InTime.{InTime, NoticesFrom}
use Rattle.bus_specs.specs.Sound.{Sound, SoundMember}
use Rattle.bus_sound.proofs.Among.{Among, filter-among, filter_map-among, among-append_left}
use Rattle.bus_sound.proofs.Lists.{each-All, any_from, any_to, map-among, append-among, among-append_right, flat_map-among, among-flat_map, among-map}
use Rattle.fmi_states.specs.declared.ecu.Ecu.{Ghosts}
use Rattle.world_specs.specs.World.{Node, Standing, New, Live, Down, Over}
use Rattle.world_specs.specs.Next.{Event, Sessions, at, rank, event_of, of_standing, precedes, enabled, up_to, next_event}
use Rattle.world_specs.specs.Sessions.{is_new}
use Rattle.world_specs.specs.Fits.{ClocksFrom, is_live, is_live_node, IsJoined}
use Rattle.world_laws.proofs.Calm.{holds-inbox}
use Rattle.world_laws.proofs.Dues.{notice-due, node-what}
use Rattle.world_laws.proofs.Order.{strictly-before}
use Rattle.world_laws.proofs.Sources.{Source, OfBus, OfMail, OfNode, source, due-enabled, mail-enabled, node-enabled}
use Rattle.world_core.specs.Courses.{Course, nodes_from, network_of}
use Rattle.world_core.specs.Units.{states_of}
use Rattle.world_core.specs.Seen.{Seen}
use Rattle.world_core.specs.Kept.{IsKept}
use Rattle.world_core.specs.First.{first_on, first_due, waits, any_calls, first_tick, first_call, first_event}
use Rattle.world_core.proofs.Firsts.{Beaten, joined, of-lists, next-is-first}
use Rattle.world_core.proofs.Ticks.{tick-set, tick-first}
use Rattle.world_core.proofs.Buses.{on-bus}
use Rattle.world_core.proofs.Calling.{node-tick, clock-node, caller, calls-by}

-- ---- notices

record DueBy (now : ℕ) (moments : List ℕ) : Type 0 where
  moment : ℕ
  among : Among moments moment
  due : moment ≤ now

due-by : {A : Type 0} (when : A → ℕ) (now : ℕ) (o : Option A) → is_some (inbox.due when now o) ≡ true → DueBy now (option_to_list (option_map when o))
due-by when now None h = absurd (both_ways false refl h)
due-by when now (Some n) h = go (nat_le (when n) now) refl h
  where
    go : (q : Bool) → nat_le (when n) now ≡ q → is_some (if q then Some n else None) ≡ true → DueBy now (option_to_list (option_map when (Some n)))
    go true e k = record { moment = when n; among = inl refl; due = leb-true (when n) now e }
    go false e k = absurd (both_ways false refl k)

plain-by : (now : ℕ) (o : Option ℕ) → is_some (inbox.due (λ n. n) now o) ≡ true → DueBy now (option_to_list o)
plain-by now None h = absurd (both_ways false refl h)
plain-by now (Some n) h = go (nat_le n now) refl h
  where
    go : (q : Bool) → nat_le n now ≡ q → is_some (if q then Some n else None) ≡ true → DueBy now (option_to_list (Some n))
    go true e k = record { moment = n; among = inl refl; due = leb-true n now e }
    go false e k = absurd (both_ways false refl k)

notice-by : (now : ℕ) (m : Member) → has_notice now m ≡ true → DueBy now (notice_moments m)
notice-by now m h = go (or_cases (is_some (due_lost now m) || is_some (due_format now m)) (is_some (due_wake now m)) h)
  where
    lost : List ℕ
    lost = option_to_list (option_map (λ (n : LostNotice). n.due) m.lost)

    format : List ℕ
    format = option_to_list (option_map (λ (n : FormatNotice). n.due) m.format)

    left : DueBy now (lost ++ format) → DueBy now (notice_moments m)
    left r = record { moment = r.moment; among = among-append_left (lost ++ format) (option_to_list m.wake) r.moment r.among; due = r.due }

    first : (is_some (due_lost now m) ≡ true) ⊎ (is_some (due_format now m) ≡ true) → DueBy now (notice_moments m)
    first (inl k) = let r = due-by (λ (n : LostNotice). n.due) now m.lost k in
        left (record { moment = r.moment; among = among-append_left lost format r.moment r.among; due = r.due })
    first (inr k) = let r = due-by (λ (n : FormatNotice). n.due) now m.format k in
        left (record { moment = r.moment; among = among-append_right lost format r.moment r.among; due = r.due })

    go : ((is_some (due_lost now m) || is_some (due_format now m)) ≡ true) ⊎ (is_some (due_wake now m) ≡ true) → DueBy now (notice_moments m)
    go (inl k) = first (or_cases (is_some (due_lost now m)) (is_some (due_format now m)) k)
    go (inr k) = let r = plain-by now m.wake k in
        record { moment = r.moment; among = among-append_right (lost ++ format) (option_to_list m.wake) r.moment r.among; due = r.due }

-- and none is past
from-some : {A : Type 0} (when : A → ℕ) (now : ℕ) (o : Option A) → IfSome o (λ n. now ≤ when n) → (u : ℕ) → Among (option_to_list (option_map when o)) u → now ≤ u
from-some when now None h u a = absurd a
from-some when now (Some n) h u (inl e) = omega (arith, h, e)
from-some when now (Some n) h u (inr a) = absurd a

from-plain : (now : ℕ) (o : Option ℕ) → IfSome o (λ n. now ≤ n) → (u : ℕ) → Among (option_to_list o) u → now ≤ u
from-plain now None h u a = absurd a
from-plain now (Some n) h u (inl e) = omega (arith, h, e)
from-plain now (Some n) h u (inr a) = absurd a

notices-from : (now : ℕ) (m : Member) → NoticesFrom now m → (u : ℕ) → Among (notice_moments m) u → now ≤ u
notices-from now m h u a = go (append-among (lost ++ format) (option_to_list m.wake) u a)
  where
    lost : List ℕ
    lost = option_to_list (option_map (λ (n : LostNotice). n.due) m.lost)

    format : List ℕ
    format = option_to_list (option_map (λ (n : FormatNotice). n.due) m.format)

    first : Among lost u ⊎ Among format u → now ≤ u
    first (inl b) = from-some (λ (n : LostNotice). n.due) now m.lost h.lost u b
    first (inr b) = from-some (λ (n : FormatNotice). n.due) now m.format h.format u b

    go : Among (lost ++ format) u ⊎ Among (option_to_list m.wake) u → now ≤ u
    go (inl b) = first (append-among lost format u b)
    go (inr b) = from-plain now m.wake h.wake u b

-- ---- sessions

no-sooner : (f : Event) (t : ℕ) → f.what ≡ Sessions → t ≤ f.moment → precedes f (at Sessions t) ≡ false
no-sooner f t s l = false_from_ne_true (precedes f (at Sessions t)) (λ k. let m = strictly-before f (at Sessions t) k (ap rank (sym s)) in omega (arith, m, l))

-- a node calls for nothing that is past
not-late : {S : Type 0} (now : ℕ) (v : Standing S) → ClocksFrom now v → (f : Event) → Among (of_standing now v) f → now ≤ f.moment
not-late now (New s) h f (inl e) = omega (arith, ap (λ (x : Event). x.moment) e)
not-late now (New s) h f (inr a) = absurd a
not-late now (Live s last clocks) h f a =
    let r = map-among (at Sessions) (filter_map (λ c. c) clocks) f a in
    let q = filter_map-among (λ (c : Option ℕ). c) clocks r.0 r.1 in
    let l : IfSome (Some r.0) (λ due. now ≤ due) = subst (λ c. IfSome c (λ due. now ≤ due)) q.2 (each-All (λ c. IfSome c (λ due. now ≤ due)) clocks q.0 h q.1) in
    let m : now ≤ r.0 = l in
    omega (arith, m, ap (λ (x : Event). x.moment) r.2)
not-late now Down h f a = absurd a
not-late now Over h f a = absurd a

-- ---- the whole

module _ {E G S : Type 0} (g : Ghosts E G S) (c : Course) (es : List E) (shared : G) (kept : IsKept g c es shared) where
  abbrev nodes : List (Node S)
  nodes = nodes_from 0 c.plan.nodes c.standings (states_of g es shared) c.clocks

  unit-each : length (states_of g es shared) ≡ length c.plan.nodes
  unit-each = length-map es (λ e. g.state e shared) ∙ kept.each

  -- where something waits for a node, sessions are enabled now
  waits-enabled : (node : ℕ) → waits c.buses c.now node ≡ true → Among (enabled (network_of c (states_of g es shared))) (at Sessions c.now)
  waits-enabled node h = on (any_to (λ b. has_inbox b c.now node) c.buses h)
    where
      by-member : (b : Bus) → Among c.buses b → (m : Member) → Among b.members m → (is_some m.mail ≡ true) ⊎ (has_notice c.now m ≡ true)
          → Among (enabled (network_of c (states_of g es shared))) (at Sessions c.now)
      by-member b a m i (inl k) = mail-enabled (network_of c (states_of g es shared)) b m a i k
      by-member b a m i (inr k) =
          let r = notice-by c.now m k in
          let l = notices-from c.now m (each-All (NoticesFrom c.now) b.members m (each-All (InTime c.now) c.buses b kept.within.fits.in_time a).notices i) r.moment r.among in
          let e : r.moment ≡ c.now = omega (arith, l, r.due) in
          subst (λ u. Among (enabled (network_of c (states_of g es shared))) (at Sessions u)) e
          (due-enabled (network_of c (states_of g es shared)) b (due.at due.Notices r.moment) a (notice-due b c.now m i r.moment r.among))

      on : (b : Bus) × Among c.buses b × (has_inbox b c.now node ≡ true) → Among (enabled (network_of c (states_of g es shared))) (at Sessions c.now)
      on r =
          let q = any_to (λ m. is_some m.mail || has_notice c.now m) (members_at r.0 node) r.2 in
          by-member r.0 r.1 q.0 (filter-among (λ (m : Member). m.node == node) (r.0).members q.0 q.1).0 (or_cases (is_some (q.0).mail) (has_notice c.now q.0) q.2)

  -- sessions are enabled when they are called for
  call-enabled : (t : ℕ) → first_call c ≡ Some t → Among (enabled (network_of c (states_of g es shared))) (at Sessions t)
  call-enabled t h = go (any_calls c.buses c.now 0 c.standings) refl h
    where
      by-node : (n : Node S) × Among nodes n × (Among (of_standing c.now n.standing) (at Sessions c.now) ⊎ (waits c.buses c.now n.number ≡ true))
          → Among (enabled (network_of c (states_of g es shared))) (at Sessions c.now)
      by-node r = at-once r.2
        where
          at-once : Among (of_standing c.now (r.0).standing) (at Sessions c.now) ⊎ (waits c.buses c.now (r.0).number ≡ true)
              → Among (enabled (network_of c (states_of g es shared))) (at Sessions c.now)
          at-once (inl k) = node-enabled (network_of c (states_of g es shared)) r.0 (at Sessions c.now) r.1 k
          at-once (inr k) = waits-enabled (r.0).number k

      go : (q : Bool) → any_calls c.buses c.now 0 c.standings ≡ q → (if q then Some c.now else first_tick c.clocks) ≡ Some t
          → Among (enabled (network_of c (states_of g es shared))) (at Sessions t)
      go true e k = subst (λ u. Among (enabled (network_of c (states_of g es shared))) (at Sessions u)) (same k)
          (by-node (caller c.buses c.now 0 c.plan.nodes c.standings (states_of g es shared) c.clocks kept.arranged.standings unit-each e))
        where
          same : Some c.now ≡ Some t → c.now ≡ t
          same k = cc
      go false e k =
          let r = clock-node c.now 0 c.plan.nodes c.standings (states_of g es shared) c.clocks t kept.arranged.standings unit-each kept.arranged.clocks kept.arranged.unset
          (tick-set c.clocks t k) in
          node-enabled (network_of c (states_of g es shared)) r.node (at Sessions t) r.among r.calls

  abbrev Sought : Event → Type 0
  Sought f = Beaten f (option_map (at Sessions) (first_call c))

  -- sessions that are called for at once come before all others
  called-now : any_calls c.buses c.now 0 c.standings ≡ true → (f : Event) → f.what ≡ Sessions → c.now ≤ f.moment → Sought f
  called-now e f s l = rw e (record { by = at Sessions c.now; there = refl; unbeaten = no-sooner f c.now s l })

  -- mail is of live nodes
  mail-calls : (b : Bus) → Among c.buses b → (m : Member) → Among b.members m → is_some m.mail ≡ true → any_calls c.buses c.now 0 c.standings ≡ true
  mail-calls b a m i h = by-life m.live refl
    where
      member : SoundMember b.setup b.running m
      member = each-All (SoundMember b.setup b.running) b.members m (each-All Sound c.buses b kept.within.fits.sound a).members i

      by-node : (n : Node S) × Among nodes n × (((n.number == m.node) && is_live n.standing) ≡ true) → any_calls c.buses c.now 0 c.standings ≡ true
      by-node r =
          let k = and_parts ((r.0).number == m.node) (is_live (r.0).standing) r.2 in
          let inbox : has_inbox b c.now (r.0).number ≡ true = subst (λ number. has_inbox b c.now number ≡ true) (sym (eqb-true (r.0).number m.node k.0))
          (holds-inbox c.now b m i (or_left (is_some m.mail) (has_notice c.now m) h)) in
          calls-by c.buses c.now 0 c.plan.nodes c.standings (states_of g es shared) c.clocks r.0 r.1
          (inr (k.1, any_from (λ b. has_inbox b c.now (r.0).number) c.buses b a inbox))

      by-life : (q : Bool) → m.live ≡ q → any_calls c.buses c.now 0 c.standings ≡ true
      by-life false e = absurd (both_ways (is_some m.mail) (ap is_some (member.absent e).mail) h)
      by-life true e =
          let joined = each-All (λ m. m.live ≡ is_live_node nodes m.node) b.members m (each-All (IsJoined nodes) c.buses b kept.within.fits.joined a) i in
          by-node (any_to (λ n. (n.number == m.node) && is_live n.standing) nodes (sym joined ∙ e))

  -- what a node calls for isn't before the first call
  node-sought : (n : Node S) → Among nodes n → (f : Event) → Among (of_standing c.now n.standing) f → Sought f
  node-sought n a f k = by-tick (node-tick c.now 0 c.plan.nodes c.standings (states_of g es shared) c.clocks n f a k)
    where
      sessions : f.what ≡ Sessions
      sessions = node-what c.now n.standing f k

      late : c.now ≤ f.moment
      late = not-late c.now n.standing (each-All (λ n. ClocksFrom c.now n.standing) nodes n kept.within.fits.clocks a) f k

      at-tick : Among c.clocks (Some f.moment) → (q : Bool) → any_calls c.buses c.now 0 c.standings ≡ q → Beaten f (option_map (at Sessions) (first_call c))
      at-tick h true e = called-now e f sessions late
      at-tick h false e =
          let r = tick-first c.clocks f.moment h in
          rw (e, r.1) (record { by = at Sessions r.0; there = refl; unbeaten = no-sooner f r.0 sessions r.2 })

      by-tick : (is_new n.standing ≡ true) ⊎ ((f.what ≡ Sessions) × Among c.clocks (Some f.moment)) → Beaten f (option_map (at Sessions) (first_call c))
      by-tick (inl h) = called-now (calls-by c.buses c.now 0 c.plan.nodes c.standings (states_of g es shared) c.clocks n a (inl h)) f sessions late
      by-tick (inr h) = at-tick h.1 (any_calls c.buses c.now 0 c.standings) refl

  abbrev due-events : Bus → List Event
  due-events b = map (event_of b.setup.number) (dues b c.now b.running)

  pub first-next : up_to c.plan.stop (first_event c) ≡ next_event c.plan.stop (network_of c (states_of g es shared))
  first-next = next-is-first c.plan.stop (network_of c (states_of g es shared)) (first_event c)
      (joined (Among (flat_map due-events c.buses)) (Among (enabled (network_of c (states_of g es shared)))) (first_due c.now c.buses) (option_map (at Sessions) (first_call c))
      (of-lists due-events (first_on c.now) c.buses (λ b a. on-bus c.now b (each-All Sound c.buses b kept.within.fits.sound a)))
      from-bus from-call all)
    where
      from-bus : (e : Event) → Among (flat_map due-events c.buses) e → Among (enabled (network_of c (states_of g es shared))) e
      from-bus e a =
          let r = flat_map-among due-events c.buses e a in
          let q = map-among (event_of (r.0).setup.number) (dues r.0 c.now (r.0).running) e r.2 in
          subst (Among (enabled (network_of c (states_of g es shared)))) q.2 (due-enabled (network_of c (states_of g es shared)) r.0 q.0 r.1 q.1)

      from-call : (e : Event) → option_map (at Sessions) (first_call c) ≡ Some e → Among (enabled (network_of c (states_of g es shared))) e
      from-call e h = go (first_call c) refl h
        where
          go : (o : Option ℕ) → first_call c ≡ o → option_map (at Sessions) o ≡ Some e → Among (enabled (network_of c (states_of g es shared))) e
          go None q k = absurd (none k)
            where
              none : None ≡ Some e → ⊥
              none k = cc
          go (Some t) q k = subst (Among (enabled (network_of c (states_of g es shared)))) (same k) (call-enabled t q)
            where
              same : Some (at Sessions t) ≡ Some e → at Sessions t ≡ e
              same k = cc

      all : (f : Event) → Among (enabled (network_of c (states_of g es shared))) f → Among (flat_map due-events c.buses) f ⊎ Beaten f (option_map (at Sessions) (first_call c))
      all f a = go (source (network_of c (states_of g es shared)) f a)
        where
          go : Source (network_of c (states_of g es shared)) f → Among (flat_map due-events c.buses) f ⊎ Beaten f (option_map (at Sessions) (first_call c))
          go (OfBus b k d i q) = inl (among-flat_map due-events c.buses b f k (subst (Among (due-events b)) q (among-map (event_of b.setup.number) (dues b c.now b.running) d i)))
          go (OfMail b k m i h q) = inr (called-now (mail-calls b k m i h) f (ap (λ (x : Event). x.what) (sym q)) (omega (arith, ap (λ (x : Event). x.moment) (sym q))))
          go (OfNode n k i) = inr (node-sought n k f i)

-- ---- what is seen

pub late : (stop : ℕ) (e : Event) → stop < e.moment → up_to stop (Some e) ≡ None
late stop e l = rw (lt-leb e.moment stop l) refl

pub in-time : (stop : ℕ) (e : Event) → e.moment ≤ stop → up_to stop (Some e) ≡ Some e
in-time stop e l = rw (le-leb e.moment stop l) refl

pub seen-next : {E G S : Type 0} (g : Ghosts E G S) (c : Course) (es : List E) (shared : G) (failed : Bool) (x : Seen S G)
    → record { plan = c.plan; network = network_of c (states_of g es shared); units = states_of g es shared; parts = map g.parts es; shared = shared; failed = failed } ≡ x
    → IsKept g c es shared → (o : Option Event) → o ≡ up_to c.plan.stop (first_event c) → o ≡ next_event x.plan.stop x.network
seen-next {E} {G} {S} g c es shared failed x e kept o h = subst (λ (y : Seen S G). o ≡ next_event y.plan.stop y.network) e (h ∙ first-next g c es shared kept)
