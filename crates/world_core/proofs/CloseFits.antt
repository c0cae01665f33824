-- A network that fits goes on to fit behind its close: no node is live, and none is live on a bus.
use Rattle.std.proofs.Common.{◌≡◌, ◌≤◌, ◌⊎◌, ◌+◌, ℕ, ◌==◌, Bool, true, false, if◌then◌else◌, List, [], ◌∷◌, All, IfSome, Option, Some, None, drop, fold, is_some, length, map, take, arith, sym, refl, ap, ◌∙◌, subst, inl, inr, eq-eqb}
use Rattle.std.specs.Prelude.{◌&&◌, ◌||◌}
use Rattle.std.proofs.lemmas.Bool.{both_ways, and_parts, eqb-true, or_cases}
use Rattle.std.proofs.lemmas.List.{length-map}
use Rattle.session_specs.specs.Outcome.{End}
use Rattle.session_specs.specs.Outcome as session
use Rattle.bus_specs.specs.Bus.{Bus, Member, Running, among, member_is}
use Rattle.bus_specs.specs.Inbox.{leave}
use Rattle.bus_specs.specs.InTime.{InTime}
use Rattle.bus_specs.specs.Sound.{Sound}
use Rattle.bus_sound.proofs.Among.{Among}
use Rattle.bus_sound.proofs.Left.{leave-sound}
use Rattle.bus_sound.proofs.Lists.{All-each, among-map, each-All}
use Rattle.bus_sound.proofs.Members.{is_from, is_to}
use Rattle.bus_sound.proofs.Timed.{leave-in-time}
use Rattle.world_specs.specs.Fits.{ClocksFrom, EndsBehind, Fits, IsAttached, IsJoined, LastBefore, LastBy, MailBehind, is_live, is_live_node}
use Rattle.world_specs.specs.Network.{close_from, node_closed, standing_by, standing_closed}
use Rattle.world_specs.specs.Units.{Units}
use Rattle.world_specs.specs.World.{AreDistinct, Node, Standing, New, Live, Down, Over, World}
use Rattle.world_laws.proofs.Calls.{Call, at_node, leave-call, no-call, then-call, was-member}
use Rattle.world_laws.proofs.Lists.{all-map, all-same, map-id, map-map, map-same}
use Rattle.world_core.specs.Closing as code
use Rattle.world_core.specs.Courses.{nodes_from, plan_of_bus, standing_of}
use Rattle.world_core.specs.Left.{network_closed, with_left}
use Rattle.world_core.specs.declared.standing.Standing as code_standing
use Rattle.world_core.specs.declared.standing.Standing.TheVariants as variant
use Rattle.world_core.proofs.Numbered.{nodes-map}
use Rattle.world_specs.specs.Plan.{NodePlan}

-- ---- one bus

abbrev pub leaves : {S : Type 0} → Bus → Node S → Bus
leaves b n = if is_live n.standing then leave b n.number else b

abbrev pub left_on : {S : Type 0} → List (Node S) → Bus → Bus
left_on ns b = fold leaves b ns

-- the live flag of a member of this node
abbrev leaves_live : {S : Type 0} → Node S → ℕ → Bool → Bool
leaves_live n k live = if is_live n.standing then at_node n.number (λ l. false) k live else live

abbrev left_live : {S : Type 0} → List (Node S) → ℕ → Bool → Bool
left_live ns k live = fold (λ l n. leaves_live n k l) live ns

module _ {S : Type 0} where
  pub left-buses : (ns : List (Node S)) (bs : List Bus) → fold with_left bs ns ≡ map (left_on ns) bs
  left-buses [] bs = sym (map-id bs)
  left-buses (n ∷ ns) bs = left-buses ns (with_left bs n) ∙ ap (map (left_on ns)) (go (is_live n.standing)) ∙ map-map (left_on ns) (λ b. leaves b n) bs
    where
      go : (q : Bool) → (if q then map (λ b. leave b n.number) bs else bs) ≡ map (λ b. if q then leave b n.number else b) bs
      go true = refl
      go false = sym (map-id bs)

  leaves-call : (t : ℕ) (n : Node S) (b : Bus) → Call t (leaves_live n) b (leaves b n)
  leaves-call t n b = go (is_live n.standing)
    where
      go : (q : Bool) → Call t (λ k live. if q then at_node n.number (λ l. false) k live else live) b (if q then leave b n.number else b)
      go true = leave-call t b n.number
      go false = no-call t b b refl refl refl refl

  pub left-call : (t : ℕ) (ns : List (Node S)) (b : Bus) → Call t (left_live ns) b (left_on ns b)
  left-call t [] b = no-call t b b refl refl refl refl
  left-call t (n ∷ ns) b = then-call t (leaves_live n) (left_live ns) b (leaves b n) (left_on ns (leaves b n)) (leaves-call t n b) (left-call t ns (leaves b n))

  -- what leaving keeps
  pub left-kept : (P : Bus → Type 0) → ((b : Bus) (node : ℕ) → P b → P (leave b node)) → (ns : List (Node S)) (b : Bus) → P b → P (left_on ns b)
  left-kept P k [] b h = h
  left-kept P k (n ∷ ns) b h = left-kept P k ns (leaves b n) (go (is_live n.standing))
    where
      go : (q : Bool) → P (if q then leave b n.number else b)
      go true = k b n.number h
      go false = h

  stays-false : (n : Node S) (k : ℕ) → leaves_live n k false ≡ false
  stays-false n k = go (is_live n.standing) (k == n.number)
    where
      go : (q r : Bool) → (if q then (if r then false else false) else false) ≡ false
      go true true = refl
      go true false = refl
      go false r = refl

  none-live : (ns : List (Node S)) (k : ℕ) → left_live ns k false ≡ false
  none-live [] k = refl
  none-live (n ∷ ns) k = ap (left_live ns k) (stays-false n k) ∙ none-live ns k

  gone : (n : Node S) (k : ℕ) (l : Bool) → (n.number == k) ≡ true → is_live n.standing ≡ true → leaves_live n k l ≡ false
  gone n k l e h = let same : (k == n.number) ≡ true = eq-eqb k n.number (sym (eqb-true n.number k e)) in rw (h, same) refl

  -- a member of a live node is live no longer
  dead : (ns : List (Node S)) (k : ℕ) (l : Bool) → is_live_node ns k ≡ true → left_live ns k l ≡ false
  dead [] k l h = absurd (both_ways false refl h)
  dead (n ∷ ns) k l h = go (or_cases ((n.number == k) && is_live n.standing) (is_live_node ns k) h) (λ e. dead ns k (leaves_live n k l) e)
    where
      go : (((n.number == k) && is_live n.standing) ≡ true) ⊎ (is_live_node ns k ≡ true) → (is_live_node ns k ≡ true → left_live ns k (leaves_live n k l) ≡ false)
          → left_live ns k (leaves_live n k l) ≡ false
      go (inl e) on = let p = and_parts (n.number == k) (is_live n.standing) e in ap (left_live ns k) (gone n k l p.0 p.1) ∙ none-live ns k
      go (inr e) on = on e

  pub left-dead : (ns : List (Node S)) (k : ℕ) (l : Bool) → l ≡ is_live_node ns k → left_live ns k l ≡ false
  left-dead ns k l e = go l refl
    where
      go : (q : Bool) → l ≡ q → left_live ns k l ≡ false
      go true f = dead ns k l (sym e ∙ f)
      go false f = ap (left_live ns k) f ∙ none-live ns k

-- ---- the nodes behind the close

module _ {S : Type 0} (u : Units S) where
  is-out : (e : End) → is_live {S = S} (standing_by e) ≡ false
  is-out session.Live = refl
  is-out session.Over = refl
  is-out (session.Down why) = refl

  closed-out : (n : Node S) → is_live (node_closed u n).standing ≡ false
  closed-out n = go n.standing
    where
      go : (v : Standing S) → is_live (standing_closed v (close_from u n.number v)) ≡ false
      go (New s) = refl
      go (Live s last clocks) = is-out (u.close n.number s).0
      go Down = refl
      go Over = refl

  -- whatever holds where a node isn't live
  pub all-out : (P : Standing S → Type 0) → ((v : Standing S) → is_live v ≡ false → P v) → (ns : List (Node S)) → All (λ (n : Node S). P n.standing) (map (node_closed u) ns)
  all-out P h ns = all-map (λ (n : Node S). Unit {0}) (λ (n : Node S). P n.standing) (node_closed u) ns (λ n a k. h (node_closed u n).standing (closed-out n)) (All-each (λ (n : Node S). Unit {0}) ns (λ n a. tt))

  out-before : (t : ℕ) (v : Standing S) → is_live v ≡ false → LastBefore t v
  out-before t (New s) h = tt
  out-before t (Live s last clocks) h = absurd (both_ways true h refl)
  out-before t Down h = tt
  out-before t Over h = tt

  out-by : (t : ℕ) (v : Standing S) → is_live v ≡ false → LastBy t v
  out-by t (New s) h = tt
  out-by t (Live s last clocks) h = absurd (both_ways true h refl)
  out-by t Down h = tt
  out-by t Over h = tt

  out-clocks : (t : ℕ) (v : Standing S) → is_live v ≡ false → ClocksFrom t v
  out-clocks t (New s) h = tt
  out-clocks t (Live s last clocks) h = absurd (both_ways true h refl)
  out-clocks t Down h = tt
  out-clocks t Over h = tt

  no-node : (ns : List (Node S)) (k : ℕ) → is_live_node (map (node_closed u) ns) k ≡ false
  no-node [] k = refl
  no-node (n ∷ ns) k = rw (closed-out n, no-node ns k) (go (n.number == k))
    where
      go : (q : Bool) → ((q && false) || false) ≡ false
      go true = refl
      go false = refl

-- ---- the whole

module _ {S : Type 0} (u : Units S) (w : World S) (h : Fits w) where
  pub each-left : (P Q : Bus → Type 0) → ((b : Bus) → Among w.buses b → P b → Q (left_on w.nodes b)) → All P w.buses → All Q (fold with_left w.buses w.nodes)
  each-left P Q k a = all-same Q (map (left_on w.nodes) w.buses) (fold with_left w.buses w.nodes) (sym (left-buses w.nodes w.buses)) (all-map P Q (left_on w.nodes) w.buses k a)

  call : (b : Bus) → Call w.now (left_live w.nodes) b (left_on w.nodes b)
  call b = left-call w.now w.nodes b

  member-stays : (b : Bus) (node : ℕ) → member_is (λ m. true) b.members node ≡ true → member_is (λ m. true) (left_on w.nodes b).members node ≡ true
  member-stays b node k =
      let c = call b in
      let i = is_to (λ (m : Member). true) b.members node k in
      subst (λ ms. member_is (λ (m : Member). true) ms node ≡ true) (sym c.members)
      (is_from (λ (m : Member). true) (map c.change b.members) (c.change i.member) node (among-map c.change b.members i.member i.among) (c.node i.member ∙ i.node) refl)

  attached : (b : Bus) → All (IsAttached b) w.nodes → All (IsAttached (left_on w.nodes b)) (map (node_closed u) w.nodes)
  attached b i = all-map (IsAttached b) (IsAttached (left_on w.nodes b)) (node_closed u) w.nodes
      (λ n a j e. member-stays b n.number (j (subst (λ s. among n.buses s.number ≡ true) (call b).setup e))) i

  joined : (b : Bus) → IsJoined w.nodes b → IsJoined (map (node_closed u) w.nodes) (left_on w.nodes b)
  joined b j = All-each (λ (m : Member). m.live ≡ is_live_node (map (node_closed u) w.nodes) m.node) (left_on w.nodes b).members
      (λ m a. let r = was-member w.now (left_live w.nodes) b (left_on w.nodes b) (call b) m a in
      r.lives
      ∙ left-dead w.nodes (r.before).node (r.before).live (each-All (λ (m : Member). m.live ≡ is_live_node w.nodes m.node) b.members r.before j r.among)
      ∙ sym (no-node u w.nodes m.node))

  ends : (b : Bus) → EndsBehind w.now (map (node_closed u) w.nodes) (left_on w.nodes b)
  ends b = go (left_on w.nodes b).running
    where
      go : (o : Option Running) → IfSome o (λ (r : Running). r.end ≡ w.now → All (λ (n : Node S). LastBefore w.now n.standing) (map (node_closed u) w.nodes))
      go None = tt
      go (Some r) = λ e. all-out u (LastBefore w.now) (out-before u w.now) w.nodes

  mails : (b : Bus) → MailBehind w.now (map (node_closed u) w.nodes) (left_on w.nodes b)
  mails b = All-each (λ (m : Member). is_some m.mail ≡ true → All (λ (n : Node S). LastBefore w.now n.standing) (map (node_closed u) w.nodes)) (left_on w.nodes b).members
      (λ m a e. all-out u (LastBefore w.now) (out-before u w.now) w.nodes)

  pub closed-fits : Fits (network_closed u w)
  closed-fits = record {
    sound = each-left Sound Sound (λ b a s. left-kept Sound leave-sound w.nodes b s) h.sound;
    bits = each-left (λ (b : Bus). 1 ≤ b.setup.nominal) (λ (b : Bus). 1 ≤ b.setup.nominal) (λ b a l. subst (λ s. 1 ≤ s.nominal) (sym (call b).setup) l) h.bits;
    in_time = each-left (InTime w.now) (InTime w.now) (λ b a i. left-kept (InTime w.now) (leave-in-time w.now) w.nodes b i) h.in_time;
    clocks = all-out u (ClocksFrom w.now) (out-clocks u w.now) w.nodes;
    lasts = all-out u (LastBy w.now) (out-by u w.now) w.nodes;
    endings = each-left (EndsBehind w.now w.nodes) (EndsBehind w.now (map (node_closed u) w.nodes)) (λ b a i. ends b) h.endings;
    mail = each-left (MailBehind w.now w.nodes) (MailBehind w.now (map (node_closed u) w.nodes)) (λ b a i. mails b) h.mail;
    attached = each-left (λ (b : Bus). All (IsAttached b) w.nodes) (λ (b : Bus). All (IsAttached b) (map (node_closed u) w.nodes)) (λ b a i. attached b i) h.attached;
    joined = each-left (IsJoined w.nodes) (IsJoined (map (node_closed u) w.nodes)) (λ b a j. joined b j) h.joined;
    bus_numbers = subst AreDistinct (sym (ap (map (λ (b : Bus). b.setup.number)) (left-buses w.nodes w.buses)
        ∙ map-map (λ (b : Bus). b.setup.number) (left_on w.nodes) w.buses
        ∙ map-same (λ (b : Bus). (left_on w.nodes b).setup.number) (λ (b : Bus). b.setup.number) w.buses (λ b a. ap (λ s. s.number) (call b).setup))) h.bus_numbers;
    node_numbers = subst AreDistinct (sym (map-map (λ (n : Node S). n.number) (node_closed u) w.nodes)) h.node_numbers;
  }

-- ---- the buses of the code

live-same : {S : Type 0} (t : code_standing.Standing) (s : S) (cs : List (Option ℕ)) → is_live (standing_of t s cs) ≡ code.is_live t
live-same variant.New s cs = refl
live-same (variant.Live last) s cs = refl
live-same variant.Down s cs = refl
live-same variant.Over s cs = refl

pub left-nodes : {S : Type 0} (p : ℕ) (ns : List NodePlan) (ts : List code_standing.Standing) (ss : List S) (cs : List (Option ℕ)) (bs : List Bus) → length ts ≡ length ns → length ss ≡ length ns
    → code.left_from p ts bs ≡ fold with_left bs (nodes_from p ns ts ss cs)
left-nodes p [] [] ss cs bs a b = refl
left-nodes p [] (t ∷ ts) ss cs bs a b = absurd (omega (arith, a))
left-nodes p (n ∷ ns) [] ss cs bs a b = absurd (omega (arith, a))
left-nodes p (n ∷ ns) (t ∷ ts) [] cs bs a b = absurd (omega (arith, b))
left-nodes p (n ∷ ns) (t ∷ ts) (s ∷ ss) cs bs a b =
    ap (λ q. code.left_from (p + 1) ts (if q then map (λ b. leave b p) bs else bs)) (sym (live-same t s (take (length n.description.countdown) cs)))
    ∙ left-nodes (p + 1) ns ts ss (drop 8 cs) (if is_live (standing_of t s (take (length n.description.countdown) cs)) then map (λ b. leave b p) bs else bs) (omega (arith, a)) (omega (arith, b))

-- what they were made from stays
leave-plan : (b : Bus) (node : ℕ) → plan_of_bus (leave b node) ≡ plan_of_bus b
leave-plan b node =
    let c = leave-call 0 b node in
    ap (λ (ms : List Member). record { setup = b.setup; members = map (λ m. m.node) ms }) c.members ∙ ap (λ ns. record { setup = b.setup; members = ns }) (nodes-map c.change c.node b.members)

pub left-plans : (p : ℕ) (ts : List code_standing.Standing) (bs : List Bus) → map plan_of_bus (code.left_from p ts bs) ≡ map plan_of_bus bs
left-plans p [] bs = refl
left-plans p (t ∷ ts) bs = left-plans (p + 1) ts (if code.is_live t then map (λ b. leave b p) bs else bs) ∙ go (code.is_live t)
  where
    go : (q : Bool) → map plan_of_bus (if q then map (λ b. leave b p) bs else bs) ≡ map plan_of_bus bs
    go true = map-map plan_of_bus (λ b. leave b p) bs ∙ map-same (λ b. plan_of_bus (leave b p)) plan_of_bus bs (λ b a. leave-plan b p)
    go false = refl
