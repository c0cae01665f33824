-- Each event keeps what holds of a network in every state.
use Rattle.std.proofs.Common.{◌≡◌, ◌≤◌, ◌<◌, ◌⊎◌, ℕ, ◌+◌, ◌*◌, ◌==◌, ◌&&◌, not, Bool, true, false, if◌then◌else◌, List, [], ◌∷◌, ◌++◌, map, filter, sum, replicate, Option, Some, None, IfSome, All, is_some, arith, sym, refl, ap, ◌∙◌, subst, inl, inr, eq-eqb}
use Rattle.std.specs.List.{cons_option}
use Rattle.std.proofs.lemmas.Bool.{both_ways, cases_lt, eqb-true, and_from, or_parts}
use Rattle.bus_specs.specs.Inbox.{has_notice}
use Rattle.std.proofs.lemmas.List.Sums.{sum_by-append}
use Rattle.std.proofs.lemmas.List.Folds.{sum_by-replicate}
use Rattle.frame_specs.specs.Frame.{Frame}
use Rattle.frame_specs.specs.Wire.{duration, body_times}
use Rattle.run_specs.specs.Run.{behind}
use Rattle.session_specs.specs.Outcome.{SessionOut, End}
use Rattle.session_specs.specs.Outcome as session
use Rattle.bus_specs.specs.Bus.{Bus, Setup, Member, Running, Request, Hurt, ErrorEntry, data_bit, winner, among, member_is}
use Rattle.bus_specs.specs.Start.{start, start_with, member_after_start, discarded, Course, course, course_with, course_of_frame, only_hurts, node_of_entry, entry_of_attempt, listeners}
use Rattle.bus_specs.specs.Finish.{finish, finish_with, member_after_finish, recover, member_after_return}
use Rattle.bus_specs.specs.Sound.{Sound}
use Rattle.bus_sound.proofs.Among.{Among}
use Rattle.bus_sound.proofs.Lists.{All-each, each-All, map-among, any_from}
use Rattle.bus_sound.proofs.Members.{is_from, is_to}
use Rattle.bus_sound.proofs.Steady.{Steady, start-steady, finish-steady, recover-steady, steady-member}
use Rattle.bus_sound.proofs.Quiet.{recover-sound}
use Rattle.bus_sound.proofs.Finished.{finish-sound}
use Rattle.bus_sound.proofs.Started.{start-sound}
use Rattle.world_specs.specs.Units.{Units}
use Rattle.world_specs.specs.World.{World, AreDistinct, Node, Standing, New, Live, Down, Over}
use Rattle.world_specs.specs.Next.{What, Finish, Return, Sessions, Start, Event, at, precedes, next_event}
use Rattle.world_specs.specs.Sessions.{Turn, turn_of, turns, is_new, takes_part, session_from, session_of, given_to, node_behind, node_after, standing_after}
use Rattle.world_specs.specs.Step.{outcome_of, world_behind}
use Rattle.world_specs.specs.Network.{network}
use Rattle.fmi_states.specs.Reply.{AreBytes}
use Rattle.world_specs.specs.Fits.{UnitsFit, LastBy, LastBefore, is_live, is_live_node, AllBefore, EndsBehind, MailBehind, IsJoined, IsAttached, Fits}
use Rattle.world_laws.specs.Words.{NothingWaits}
use Rattle.world_laws.proofs.Lists.{map-map, map-same, all-map, all-more}
use Rattle.world_laws.proofs.Order.{no-earlier, strictly-later, next-unbeaten}
use Rattle.world_laws.proofs.Changed.{turn-is, turn-among, number-stays, buses-stay, along}
use Rattle.world_laws.proofs.Sources.{due-enabled, mail-enabled}
use Rattle.world_laws.proofs.OneBus.{turns_on, bus_behind, buses-behind, each-bus}
use Rattle.world_laws.proofs.Timed.{AllFrom, to-enabled, outcome-from, all-from-next, forward}
use Rattle.world_laws.proofs.Dues.{end-due, own-end, own-start}
use Rattle.world_laws.proofs.Calls.{Call, holds, turns-call, entries_live, ends_live}
use Rattle.world_laws.proofs.Lives.{turn-numbers, node-numbers, turns-joined}
use Rattle.world_laws.proofs.Calm.{turns-calm, no-inbox}
use Rattle.world_laws.proofs.Sounded.{Differ, MayTurn, turns-sound}

-- ---- a frame lasts

takes-time : (f : Frame) (n d : ℕ) → 1 ≤ n → 1 ≤ duration f n d
unfolding duration
takes-time f n d l =
    let s : sum (body_times f.kind f n d ++ replicate 10 n) ≡ sum (body_times f.kind f n d) + sum (replicate 10 n) = sum_by-append (λ x. x) (body_times f.kind f n d) (replicate 10 n) in
    let t : sum (replicate 10 n) ≡ 10 * n = sum_by-replicate (λ x. x) 10 n in
    omega (arith, s, t, l)

pub course-later : (t : ℕ) (b : Bus) (w : Request) → 1 ≤ b.setup.nominal → t < (course b t w).end
unfolding course
course-later t b w h = go (entry_of_attempt b w.node (listeners b w.node))
  where
    heard : (hurt : Option Hurt) (ns : List ℕ) → t < (course_of_frame b t w hurt ns).end
    heard hurt [] = omega (arith, h)
    heard hurt (n ∷ ns) = let l = takes-time w.frame b.setup.nominal (data_bit b) h in omega (arith, l)

    either : (q : Bool) (x y : Course) → t < x.end → t < y.end → t < (if q then x else y).end
    either true x y l m = l
    either false x y l m = m

    go : (o : Option ErrorEntry) → t < (course_with b t w (listeners b w.node) o).end
    go None = heard None (listeners b w.node)
    go (Some e) = either (only_hurts b w.node (node_of_entry e w.node)) _ _
        (heard (Some (record { node = node_of_entry e w.node; kind = e.kind })) (filter (λ n. not (n == node_of_entry e w.node)) (listeners b w.node)))
        (omega (arith, h))

-- ---- one bus

-- an event that steps a bus keeps its setup and its members' nodes
one-steady : (q : Bool) (b after : Bus) → Steady b after → ((if q then after else b).setup ≡ b.setup) × ((node : ℕ) → member_is (λ m. true) b.members node ≡ true → member_is (λ m. true) (if q then after else b).members node ≡ true)
one-steady true b after s = (s.setup, λ node h. steady-member b after node s h)
one-steady false b after s = (refl, λ node h. h)

-- the live flag of a member behind the sessions of a moment
abbrev pub sessions_live : {S : Type 0} → Units S → World S → ℕ → ℕ → Bool → Bool
sessions_live u w t n live = ends_live (turns u w.buses t w.nodes) n (entries_live (turns u w.buses t w.nodes) n live)

module _ {S : Type 0} (u : Units S) (w : World S) (t : ℕ) where
  pub sessions-call : (b : Bus) → 1 ≤ b.setup.nominal → Call t (sessions_live u w t) b (turns_on t (turns u w.buses t w.nodes) b)
  sessions-call b p = turns-call t (turns u w.buses t w.nodes) b p

  pub setup-stays : (k : What) (b : Bus) → 1 ≤ b.setup.nominal → (bus_behind u w t k b).setup ≡ b.setup
  setup-stays (Finish bus) b p = (one-steady (b.setup.number == bus) b (finish b t).0 (finish-steady b t)).0
  setup-stays (Return bus node) b p = (one-steady (b.setup.number == bus) b (recover b t node).0 (recover-steady b t node)).0
  setup-stays Sessions b p = (sessions-call b p).setup
  setup-stays (Start bus) b p = (one-steady (b.setup.number == bus) b (start b t).0 (start-steady b t)).0

  among-change : (f : Member → Member) (ms : List Member) (m : Member) → Among ms m → Among (map f ms) (f m)
  among-change f [] m a = absurd a
  among-change f (y ∷ ms) m (inl e) = inl (ap f e)
  among-change f (y ∷ ms) m (inr a) = inr (among-change f ms m a)

  pub member-stays : (k : What) (b : Bus) → 1 ≤ b.setup.nominal → (node : ℕ) → member_is (λ m. true) b.members node ≡ true → member_is (λ m. true) (bus_behind u w t k b).members node ≡ true
  member-stays (Finish bus) b p node h = (one-steady (b.setup.number == bus) b (finish b t).0 (finish-steady b t)).1 node h
  member-stays (Return bus n) b p node h = (one-steady (b.setup.number == bus) b (recover b t n).0 (recover-steady b t n)).1 node h
  member-stays Sessions b p node h =
      let c = sessions-call b p in
      let i = is_to (λ m. true) b.members node h in
      subst (λ ms. member_is (λ m. true) ms node ≡ true) (sym c.members)
      (is_from (λ m. true) (map c.change b.members) (c.change i.member) node (among-change c.change b.members i.member i.among) (c.node i.member ∙ i.node) refl)
  member-stays (Start bus) b p node h = (one-steady (b.setup.number == bus) b (start b t).0 (start-steady b t)).1 node h

-- ---- nodes

raised : {S : Type 0} (now t : ℕ) → now ≤ t → (s : Standing S) → LastBy now s → LastBy t s
raised now t l (New s) h = tt
raised now t l (Live s last clocks) h = omega arith
raised now t l Down h = tt
raised now t l Over h = tt

before : {S : Type 0} (now t : ℕ) → now < t → (s : Standing S) → LastBy now s → LastBefore t s
before now t l (New s) h = tt
before now t l (Live s last clocks) h = omega arith
before now t l Down h = tt
before now t l Over h = tt

-- each session was before an event that is later, or was so already
before-event : {S : Type 0} (w : World S) → All (λ n. LastBy w.now n.standing) w.nodes → (t : ℕ) → w.now ≤ t → (w.now ≡ t → AllBefore w.now w.nodes) → AllBefore t w.nodes
before-event w lasts t l h = go (cases_lt w.now t)
  where
    go : (w.now < t) ⊎ (t ≤ w.now) → AllBefore t w.nodes
    go (inl k) = all-more (λ n. LastBy w.now n.standing) (λ n. LastBefore t n.standing) w.nodes (λ n a i. before w.now t k n.standing i) lasts
    go (inr k) = let s : w.now ≡ t = omega arith in subst (λ m. AllBefore m w.nodes) s (h s)

module _ {S : Type 0} (u : Units S) (w : World S) (h : Fits w) where
  last-by : (t : ℕ) → w.now ≤ t → (k : What) → All (λ n. LastBy t n.standing) (outcome_of u w t k).nodes
  last-by t l k = go k
    where
      old : All (λ n. LastBy t n.standing) w.nodes
      old = all-more (λ n. LastBy w.now n.standing) (λ n. LastBy t n.standing) w.nodes (λ n a i. raised w.now t l n.standing i) h.lasts

      stood : (out : SessionOut) (state : S) (s : Standing S) (e : End) → LastBy t (standing_after t out state s e)
      stood out state s session.Live = omega arith
      stood out state s session.Over = tt
      stood out state s (session.Down cause) = tt

      by-session : (n : Node S) (o : Option (SessionOut × S)) → LastBy t n.standing → LastBy t (node_behind t n o).standing
      by-session n None i = i
      by-session n (Some r) i = stood r.0 r.1 n.standing (r.0).end

      go : (k : What) → All (λ n. LastBy t n.standing) (outcome_of u w t k).nodes
      go (Finish bus) = old
      go (Return bus node) = old
      go (Start bus) = old
      go Sessions = all-map (λ n. LastBy t n.standing) (λ n. LastBy t n.standing) (node_after u w.buses t) w.nodes (λ n a i. by-session n (session_of u w.buses t n) i) old

  pub bits-of : (b : Bus) → Among w.buses b → 1 ≤ b.setup.nominal
  bits-of b a = each-All (λ b. 1 ≤ b.setup.nominal) w.buses b h.bits a

  has-bits : (t : ℕ) (k : What) → All (λ b. 1 ≤ b.setup.nominal) (outcome_of u w t k).buses
  has-bits t k = each-bus u w t k (λ b. 1 ≤ b.setup.nominal) (λ b. 1 ≤ b.setup.nominal) (λ b a p. subst (λ s. 1 ≤ s.nominal) (sym (setup-stays u w t k b p)) p) h.bits

  bus-numbers : (t : ℕ) (k : What) → AreDistinct (map (λ b. b.setup.number) (outcome_of u w t k).buses)
  bus-numbers t k = subst AreDistinct (sym (ap (map (λ b. b.setup.number)) (buses-behind u w t k)
      ∙ map-map (λ b. b.setup.number) (bus_behind u w t k) w.buses
      ∙ map-same (λ b. (bus_behind u w t k b).setup.number) (λ b. b.setup.number) w.buses (λ b a. ap (λ (s : Setup). s.number) (setup-stays u w t k b (bits-of b a))))) h.bus_numbers

  numbers : (t : ℕ) (k : What) → AreDistinct (map (λ n. n.number) (outcome_of u w t k).nodes)
  numbers t (Finish bus) = h.node_numbers
  numbers t (Return bus node) = h.node_numbers
  numbers t (Start bus) = h.node_numbers
  numbers t Sessions = node-numbers u w.buses t w.nodes h.node_numbers

  attached : (t : ℕ) (k : What) → All (λ b. All (IsAttached b) (outcome_of u w t k).nodes) (outcome_of u w t k).buses
  attached t k = each-bus u w t k (λ b. All (IsAttached b) w.nodes) (λ b. All (IsAttached b) (outcome_of u w t k).nodes)
      (λ b a i. nodes k b (bits-of b a) (one k b (bits-of b a) i)) h.attached
    where
      one : (k : What) (b : Bus) → 1 ≤ b.setup.nominal → All (IsAttached b) w.nodes → All (IsAttached (bus_behind u w t k b)) w.nodes
      one k b p i = all-more (IsAttached b) (IsAttached (bus_behind u w t k b)) w.nodes
          (λ n a j e. member-stays u w t k b p n.number (j (subst (λ s. among n.buses s.number ≡ true) (setup-stays u w t k b p) e))) i

      nodes : (k : What) (b : Bus) → 1 ≤ b.setup.nominal → All (IsAttached (bus_behind u w t k b)) w.nodes → All (IsAttached (bus_behind u w t k b)) (outcome_of u w t k).nodes
      nodes (Finish bus) b p i = i
      nodes (Return bus node) b p i = i
      nodes (Start bus) b p i = i
      nodes Sessions b p i = all-map (IsAttached (bus_behind u w t Sessions b)) (IsAttached (bus_behind u w t Sessions b)) (node_after u w.buses t) w.nodes
          (λ n a j e. subst (λ m. member_is (λ m. true) (bus_behind u w t Sessions b).members m ≡ true) (sym (number-stays u w.buses t n))
          (j (subst (λ bs. among bs (bus_behind u w t Sessions b).setup.number ≡ true) (buses-stay u w.buses t n) e))) i

  -- live flags stay where no session is
  still-joined : (t : ℕ) (q : Bool) (b after : Bus) → ((m : Member) → Among after.members m → (x : Member) × Among b.members x × (x.node ≡ m.node) × (x.live ≡ m.live))
      → IsJoined w.nodes b → IsJoined w.nodes (if q then after else b)
  still-joined t true b after s j = All-each (λ m. m.live ≡ is_live_node w.nodes m.node) after.members
      (λ m a. let r = s m a in sym r.3 ∙ each-All (λ m. m.live ≡ is_live_node w.nodes m.node) b.members r.0 j r.1 ∙ ap (is_live_node w.nodes) r.2)
  still-joined t false b after s j = j

  finish-lives : (t : ℕ) (b : Bus) (m : Member) → Among (finish b t).0.members m → (x : Member) × Among b.members x × (x.node ≡ m.node) × (x.live ≡ m.live)
  unfolding finish
  finish-lives t b m a = go b.running a
    where
      go : (o : Option Running) → Among (finish_with b t o).0.members m → (x : Member) × Among b.members x × (x.node ≡ m.node) × (x.live ≡ m.live)
      go None a = (m, a, refl, refl)
      go (Some r) a = let i = map-among (member_after_finish r) b.members m a in (i.0, i.1, ap (λ (y : Member). y.node) i.2, ap (λ (y : Member). y.live) i.2)

  start-lives : (t : ℕ) (b : Bus) (m : Member) → Among (start b t).0.members m → (x : Member) × Among b.members x × (x.node ≡ m.node) × (x.live ≡ m.live)
  unfolding start
  start-lives t b m a = go (winner b t) a
    where
      go : (o : Option Request) → Among (start_with b t o).0.members m → (x : Member) × Among b.members x × (x.node ≡ m.node) × (x.live ≡ m.live)
      go None a = (m, a, refl, refl)
      go (Some r) a = let i = map-among (member_after_start b t (discarded b t r.node)) b.members m a in (i.0, i.1, ap (λ (y : Member). y.node) i.2, ap (λ (y : Member). y.live) i.2)

  recover-lives : (t node : ℕ) (b : Bus) (m : Member) → Among (recover b t node).0.members m → (x : Member) × Among b.members x × (x.node ≡ m.node) × (x.live ≡ m.live)
  unfolding recover
  recover-lives t node b m a =
      let i = map-among (λ m. if m.node == node then member_after_return m else m) b.members m a in
      (i.0, i.1, nodes i.0 (i.0.node == node) ∙ ap (λ (y : Member). y.node) i.2, lives i.0 (i.0.node == node) ∙ ap (λ (y : Member). y.live) i.2)
    where
      nodes : (x : Member) (q : Bool) → x.node ≡ (if q then member_after_return x else x).node
      nodes x true = refl
      nodes x false = refl

      lives : (x : Member) (q : Bool) → x.live ≡ (if q then member_after_return x else x).live
      lives x true = refl
      lives x false = refl

  joined : (t : ℕ) (k : What) → All (IsJoined (outcome_of u w t k).nodes) (outcome_of u w t k).buses
  joined t k = each-bus u w t k (IsJoined w.nodes) (IsJoined (outcome_of u w t k).nodes) (λ b a j. go k b a j) h.joined
    where
      go : (k : What) (b : Bus) → Among w.buses b → IsJoined w.nodes b → IsJoined (outcome_of u w t k).nodes (bus_behind u w t k b)
      go (Finish bus) b a j = still-joined t (b.setup.number == bus) b (finish b t).0 (finish-lives t b) j
      go (Return bus node) b a j = still-joined t (b.setup.number == bus) b (recover b t node).0 (recover-lives t node b) j
      go (Start bus) b a j = still-joined t (b.setup.number == bus) b (start b t).0 (start-lives t b) j
      go Sessions b a j = turns-joined u w.buses t w.nodes h.node_numbers b (bits-of b a) j

  -- ---- sound

  pub differ : (t : ℕ) (ns : List (Node S)) → AreDistinct (map (λ n. n.number) ns) → Differ t (turns u w.buses t ns)
  differ t [] d = tt
  differ t (n ∷ ns) d = go (turn_of u w.buses t n) refl (differ t ns d.1)
    where
      go : (o : Option (Turn S)) → turn_of u w.buses t n ≡ o → Differ t (turns u w.buses t ns) → Differ t (cons_option o (turns u w.buses t ns))
      go None e i = i
      go (Some x) e i =
          let r = own x e in
          ((λ y a q. turn-numbers u w.buses t ns n.number d.0 y a (sym (q ∙ r))), i)
        where
          own : (x : Turn S) → turn_of u w.buses t n ≡ Some x → x.node.number ≡ n.number
          own x e = ap (λ (m : Node S). m.number) (turn-is u w.buses t n x e).node

  pub emitted-bytes : UnitsFit u → (t : ℕ) (x : Turn S) → Among (turns u w.buses t w.nodes) x → All (λ e. AreBytes e.bytes) x.out.emitted
  emitted-bytes fit t x a =
      let r = turn-among u w.buses t w.nodes x a in
      from r.0 (r.0).standing (takes_part w.buses t r.0) refl (r.2).state (r.2).session
    where
      by-part : (n : Node S) (s : S) → session_of u w.buses t n ≡ Some (x.out, s) → (q : Bool) → takes_part w.buses t n ≡ q → session_from u w.buses t n n.standing ≡ Some (x.out, s)
      by-part n s e true p = subst (λ q. (if q then session_from u w.buses t n n.standing else None) ≡ Some (x.out, s)) p e
      by-part n s e false p = absurd (none (subst (λ q. (if q then session_from u w.buses t n n.standing else None) ≡ Some (x.out, s)) p e))
        where
          none : {p : SessionOut × S} → None ≡ Some p → ⊥
          none z = cc

      of-standing : (n : Node S) (s : S) (v : Standing S) → session_from u w.buses t n v ≡ Some (x.out, s) → All (λ e. AreBytes e.bytes) x.out.emitted
      of-standing n s (New v) e = let g = given_to w.buses t n 0 [] in
          let pair : SessionOut × S = (x.out, s) in let q : u.session n.number g v ≡ pair = cc in subst (λ (p : SessionOut × S). All (λ e. AreBytes e.bytes) (p.0).emitted) q (fit.bytes n.number g v)
      of-standing n s (Live v last clocks) e = let g = given_to w.buses t n last clocks in
          let pair : SessionOut × S = (x.out, s) in let q : u.session n.number g v ≡ pair = cc in subst (λ (p : SessionOut × S). All (λ e. AreBytes e.bytes) (p.0).emitted) q (fit.bytes n.number g v)
      of-standing n s Down e = absurd cc
      of-standing n s Over e = absurd cc

      from : (n : Node S) (v : Standing S) (q : Bool) → takes_part w.buses t n ≡ q → (s : S) → session_of u w.buses t n ≡ Some (x.out, s) → All (λ e. AreBytes e.bytes) x.out.emitted
      from n v q p s e = of-standing n s n.standing (by-part n s e q p)

  pub may-turn : (t : ℕ) (b : Bus) → Among w.buses b → (x : Turn S) → Among (turns u w.buses t w.nodes) x → MayTurn t x b
  may-turn t b a x i =
      let r = turn-among u w.buses t w.nodes x i in
      let here : IsAttached b r.0 = each-All (IsAttached b) w.nodes r.0 (each-All (λ b. All (IsAttached b) w.nodes) w.buses b h.attached a) r.1 in
      record {
        member = λ e. subst (λ (n : Node S). member_is (λ m. true) b.members n.number ≡ true) (sym (r.2).node) (here (subst (λ (n : Node S). among n.buses b.setup.number ≡ true) (r.2).node e));
        lives = subst (λ (n : Node S). (is_new n.standing ≡ true) ⊎ ((m : Member) → Among b.members m → m.node ≡ n.number → m.live ≡ true)) (sym (r.2).node)
            (by r.0 r.1 r.0.standing refl (r.2).part);
      }
    where
      living : (n : Node S) → Among w.nodes n → is_live n.standing ≡ true → (m : Member) → Among b.members m → m.node ≡ n.number → m.live ≡ true
      living n c e m j s = each-All (λ m. m.live ≡ is_live_node w.nodes m.node) b.members m (each-All (IsJoined w.nodes) w.buses b h.joined a) j
          ∙ any_from (λ k. (k.number == m.node) && is_live k.standing) w.nodes n c (and_from (n.number == m.node) (is_live n.standing) (eq-eqb n.number m.node (sym s)) e)

      by : (n : Node S) → Among w.nodes n → (s : Standing S) → n.standing ≡ s → takes_part w.buses t n ≡ true
          → (is_new n.standing ≡ true) ⊎ ((m : Member) → Among b.members m → m.node ≡ n.number → m.live ≡ true)
      by n c (New s) e p = inl (rw e refl)
      by n c (Live s last clocks) e p = inr (living n c (rw e refl))
      by n c Down e p = absurd (both_ways (takes_part w.buses t n) (rw e refl) p)
      by n c Over e p = absurd (both_ways (takes_part w.buses t n) (rw e refl) p)

  sound-bus : UnitsFit u → (stop t : ℕ) (k : What) → next_event stop w ≡ Some (at k t) → (b : Bus) → Among w.buses b → Sound b → Sound (bus_behind u w t k b)
  sound-bus fit stop t (Finish bus) n b a s = go (b.setup.number == bus)
    where
      go : (q : Bool) → Sound (if q then (finish b t).0 else b)
      go true = finish-sound b t s
      go false = s
  sound-bus fit stop t (Return bus node) n b a s = go (b.setup.number == bus)
    where
      go : (q : Bool) → Sound (if q then (recover b t node).0 else b)
      go true = recover-sound b t node s
      go false = s
  sound-bus fit stop t (Start bus) n b a s = go (b.setup.number == bus) refl
    where
      go : (q : Bool) → (b.setup.number == bus) ≡ q → Sound (if q then (start b t).0 else b)
      go true e = start-sound b w.now t s (own-start stop w bus t n h.bus_numbers b a (eqb-true b.setup.number bus e))
      go false e = s
  sound-bus fit stop t Sessions n b a s =
      turns-sound t (turns u w.buses t w.nodes) b (differ t w.nodes h.node_numbers) (emitted-bytes fit t) (bits-of b a) (may-turn t b a) s

  -- ---- ends and mail

  pub calm-bus : (t : ℕ) (b : Bus) → Among w.buses b → (m : Member) → Among (turns_on t (turns u w.buses t w.nodes) b).members m → holds t m ≡ false
  calm-bus t b a = turns-calm u w.buses t w.nodes b a (bits-of b a) (each-All Sound w.buses b h.sound a) (each-All (IsJoined w.nodes) w.buses b h.joined a)

  pub nothing-waits : (t : ℕ) → All (NothingWaits t) (outcome_of u w t Sessions).buses
  nothing-waits t = each-bus u w t Sessions Sound (NothingWaits t) (λ b a s. no-inbox t (turns_on t (turns u w.buses t w.nodes) b) (calm-bus t b a)) h.sound

  -- where a frame ends at an event, each session was before it
  ends-old : (t : ℕ) → w.now ≤ t → (b : Bus) → Among w.buses b → EndsBehind t w.nodes b
  ends-old t l b a = go b.running (each-All (EndsBehind w.now w.nodes) w.buses b h.endings a)
    where
      go : (o : Option Running) → IfSome o (λ r. r.end ≡ w.now → AllBefore w.now w.nodes) → IfSome o (λ r. r.end ≡ t → AllBefore t w.nodes)
      go None i = tt
      go (Some r) i = λ e. before-event w h.lasts t l (λ s. i (e ∙ sym s))

  endings : (stop t : ℕ) (k : What) → next_event stop w ≡ Some (at k t) → w.now ≤ t → All (EndsBehind t (outcome_of u w t k).nodes) (outcome_of u w t k).buses
  unfolding finish start recover
  endings stop t k n l = each-bus u w t k (EndsBehind w.now w.nodes) (EndsBehind t (outcome_of u w t k).nodes) (λ b a i. go k n b a) h.endings
    where
      finished : (b : Bus) → IfSome (finish b t).0.running (λ r. r.end ≡ t → AllBefore t w.nodes)
      finished b = by b.running refl
        where
          by : (o : Option Running) → b.running ≡ o → IfSome (finish_with b t o).0.running (λ r. r.end ≡ t → AllBefore t w.nodes)
          by None e = subst (λ o. IfSome o (λ r. r.end ≡ t → AllBefore t w.nodes)) (sym e) tt
          by (Some r) e = tt

      started : (b : Bus) → Among w.buses b → IfSome (start b t).0.running (λ r. r.end ≡ t → AllBefore t w.nodes)
      started b a = by (winner b t)
        where
          by : (o : Option Request) → IfSome (start_with b t o).0.running (λ r. r.end ≡ t → AllBefore t w.nodes)
          by None = ends-old t l b a
          by (Some q) = λ e. let m = course-later t b q (bits-of b a) in absurd (omega (arith, e, m))

      none : next_event stop w ≡ Some (at Sessions t) → (b : Bus) → Among w.buses b → (r : Running) → b.running ≡ Some r → r.end ≡ t → ⊥
      none n b a r e q =
          let m = strictly-later (at Sessions t) (at (Finish b.setup.number) r.end)
          (next-unbeaten stop w (at Sessions t) (at (Finish b.setup.number) r.end) n (due-enabled w b _ a (end-due b w.now r e))) refl in
          omega (arith, q, m)

      go : (k : What) → next_event stop w ≡ Some (at k t) → (b : Bus) → Among w.buses b → EndsBehind t (outcome_of u w t k).nodes (bus_behind u w t k b)
      go (Finish bus) n b a = by (b.setup.number == bus)
        where
          by : (q : Bool) → EndsBehind t w.nodes (if q then (finish b t).0 else b)
          by true = finished b
          by false = ends-old t l b a
      go (Return bus node) n b a = by (b.setup.number == bus)
        where
          by : (q : Bool) → EndsBehind t w.nodes (if q then (recover b t node).0 else b)
          by true = ends-old t l b a
          by false = ends-old t l b a
      go (Start bus) n b a = by (b.setup.number == bus)
        where
          by : (q : Bool) → EndsBehind t w.nodes (if q then (start b t).0 else b)
          by true = started b a
          by false = ends-old t l b a
      go Sessions n b a = subst (λ o. IfSome o (λ r. r.end ≡ t → AllBefore t (outcome_of u w t Sessions).nodes)) (sym (sessions-call u w t b (bits-of b a)).running) (by b.running refl)
        where
          by : (o : Option Running) → b.running ≡ o → IfSome o (λ r. r.end ≡ t → AllBefore t (outcome_of u w t Sessions).nodes)
          by None e = tt
          by (Some r) e = λ q. absurd (none n b a r e q)

  -- mail: a frame ends, or it was there before the event, which isn't before it
  finish-before : (stop t bus : ℕ) → next_event stop w ≡ Some (at (Finish bus) t) → w.now ≤ t → AllBefore t w.nodes
  finish-before stop t bus n l =
      let o = own-end stop w bus t n in
      (subst (λ r. IfSome r (λ r. r.end ≡ t → AllBefore t w.nodes)) o.running (ends-old t l o.on o.among)) o.end

  mail-same : (q : Bool) (P : Type 0) (b after : Bus) → ((m : Member) → Among after.members m → (x : Member) × Among b.members x × (x.mail ≡ m.mail))
      → ((m : Member) → Among b.members m → is_some m.mail ≡ true → P) → (m : Member) → Among (if q then after else b).members m → is_some m.mail ≡ true → P
  mail-same true P b after s k m a e = let r = s m a in k r.0 r.1 (subst (λ o. is_some o ≡ true) (sym r.2) e)
  mail-same false P b after s k m a e = k m a e

  pub start-mail : (t : ℕ) (b : Bus) (m : Member) → Among (start b t).0.members m → (x : Member) × Among b.members x × (x.mail ≡ m.mail)
  unfolding start
  start-mail t b m a = go (winner b t) a
    where
      go : (o : Option Request) → Among (start_with b t o).0.members m → (x : Member) × Among b.members x × (x.mail ≡ m.mail)
      go None a = (m, a, refl)
      go (Some r) a = let i = map-among (member_after_start b t (discarded b t r.node)) b.members m a in (i.0, i.1, ap (λ (y : Member). y.mail) i.2)

  recover-mail : (t node : ℕ) (b : Bus) (m : Member) → Among (recover b t node).0.members m → (x : Member) × Among b.members x × (x.mail ≡ m.mail)
  unfolding recover
  recover-mail t node b m a =
      let i = map-among (λ m. if m.node == node then member_after_return m else m) b.members m a in
      (i.0, i.1, mails i.0 (i.0.node == node) ∙ ap (λ (y : Member). y.mail) i.2)
    where
      mails : (x : Member) (q : Bool) → x.mail ≡ (if q then member_after_return x else x).mail
      mails x true = refl
      mails x false = refl

  mail-left : (stop t : ℕ) (k : What) → next_event stop w ≡ Some (at k t) → w.now ≤ t → All (MailBehind t (outcome_of u w t k).nodes) (outcome_of u w t k).buses
  mail-left stop t k n l = each-bus u w t k (MailBehind w.now w.nodes) (MailBehind t (outcome_of u w t k).nodes)
      (λ b a i. All-each (λ m. is_some m.mail ≡ true → AllBefore t (outcome_of u w t k).nodes) (bus_behind u w t k b).members (λ m c e. go k n b a i m c e)) h.mail
    where
      -- mail calls for sessions at the last moment, no sooner than the event
      unbeaten : (k : What) → next_event stop w ≡ Some (at k t) → (b : Bus) → Among w.buses b → (m : Member) → Among b.members m → is_some m.mail ≡ true → precedes (at Sessions w.now) (at k t) ≡ false
      unbeaten k n b a m c e = next-unbeaten stop w (at k t) (at Sessions w.now) n (mail-enabled w b m a c e)

      go : (k : What) → next_event stop w ≡ Some (at k t) → (b : Bus) → Among w.buses b → MailBehind w.now w.nodes b
          → (m : Member) → Among (bus_behind u w t k b).members m → is_some m.mail ≡ true → AllBefore t (outcome_of u w t k).nodes
      go (Finish bus) n b a i m c e = finish-before stop t bus n l
      go (Return bus node) n b a i m c e = mail-same (b.setup.number == bus) (AllBefore t w.nodes) b (recover b t node).0 (recover-mail t node b)
          (λ m c e. let f = no-earlier (at (Return bus node) t) (at Sessions w.now) (unbeaten (Return bus node) n b a m c e) in
          let s : w.now ≡ t = omega (arith, f, l) in
          subst (λ v. AllBefore v w.nodes) s (each-All (λ m. is_some m.mail ≡ true → AllBefore w.now w.nodes) b.members m i c e)) m c e
      go (Start bus) n b a i m c e = mail-same (b.setup.number == bus) (AllBefore t w.nodes) b (start b t).0 (start-mail t b)
          (λ m c e. let f = strictly-later (at (Start bus) t) (at Sessions w.now) (unbeaten (Start bus) n b a m c e) refl in absurd (omega (arith, f, l))) m c e
      go Sessions n b a i m c e = absurd (both_ways (is_some m.mail) (no-mail m (calm-bus t b a m c)) e)
        where
          no-mail : (m : Member) → holds t m ≡ false → is_some m.mail ≡ false
          no-mail m q = (or_parts (is_some m.mail) (has_notice t m) q).0

-- ---- the whole

pub fits-from : {S : Type 0} (w : World S) → Fits w → AllFrom w.now w.buses w.nodes
fits-from w h = record { buses = h.in_time; nodes = h.clocks }

pub fits-step : {S : Type 0} (u : Units S) (stop : ℕ) (w : World S) (e : Event) → UnitsFit u → Fits w → next_event stop w ≡ Some e → Fits (world_behind u w e)
fits-step u stop w e fit h n =
    let l = forward stop w e (to-enabled w (fits-from w h)) n in
    let from = outcome-from u fit w e.moment e.what (all-from-next stop w e n) in
    record {
      sound = each-bus u w e.moment e.what Sound Sound (λ b a s. sound-bus u w h fit stop e.moment e.what n b a s) h.sound;
      bits = has-bits u w h e.moment e.what;
      in_time = from.buses;
      clocks = from.nodes;
      lasts = last-by u w h e.moment l e.what;
      endings = endings u w h stop e.moment e.what n l;
      mail = mail-left u w h stop e.moment e.what n l;
      attached = attached u w h e.moment e.what;
      joined = joined u w h e.moment e.what;
      bus_numbers = bus-numbers u w h e.moment e.what;
      node_numbers = numbers u w h e.moment e.what;
    }

pub fits-along : {S : Type 0} (u : Units S) (stop events : ℕ) (w : World S) → UnitsFit u → Fits w → Fits (behind (network u stop) events w)
fits-along u stop events w fit h = along u stop Fits (λ v e n i. fits-step u stop v e fit i n) events w h
