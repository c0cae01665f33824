-- The network of a plan fits as it opens.
use Rattle.std.proofs.Common.{◌≡◌, ◌≤◌, ◌<◌, ℕ, zero, suc, ◌+◌, ◌*◌, ◌==◌, ◌&&◌, Bool, true, false, if◌then◌else◌, List, [], ◌∷◌, map, length, All, is_some, arith, sym, refl, ap, ◌∙◌, subst, inl, inr}
use Rattle.std.proofs.lemmas.Bool.{ne_eqb}
use Rattle.bus_specs.specs.Bus.{Bus, Member, new_bus, new_member, among, member_is}
use Rattle.bus_specs.specs.Sound.{Sound, IsSetup, IsKind, Rise}
use Rattle.bus_specs.specs.InTime.{InTime}
use Rattle.bus_sound.proofs.Among.{Among}
use Rattle.bus_sound.proofs.Lists.{All-each, each-All, map-among, among-map, none_from, rise-lower}
use Rattle.bus_sound.proofs.Members.{is_from}
use Rattle.bus_sound.proofs.Opened.{new_bus-sound}
use Rattle.bus_sound.proofs.Timed.{new_bus-in-time}
use Rattle.world_specs.specs.World.{AreDistinct, Node, Standing, New}
use Rattle.world_specs.specs.Plan.{BusPlan, NodePlan, Plan, IsEntry, naming_from, IsBusPlan, AllFrom, IsPlan, new_nodes, opening_of}
use Rattle.world_specs.specs.Fits.{LastBy, LastBefore, ClocksFrom, is_live, is_live_node, AllBefore, EndsBehind, MailBehind, IsJoined, IsAttached, Fits}

-- ---- places

from-among : {X : Type 0} (i : ℕ) (P : ℕ → X → Type 0) (xs : List X) (x : X) → AllFrom i P xs → Among xs x → (k : ℕ) × P k x
from-among i P [] x h a = absurd a
from-among i P (y ∷ xs) x h (inl e) = (i, subst (P i) e h.0)
from-among i P (y ∷ xs) x h (inr a) = from-among (i + 1) P xs x h.1 a

-- numbers that are places differ
module _ {X : Type 0} (number : X → ℕ) where
  higher : (i j : ℕ) (P : ℕ → X → Type 0) → ((k : ℕ) (x : X) → P k x → number x ≡ k) → j < i → (xs : List X) → AllFrom i P xs → among (map number xs) j ≡ false
  higher i j P is l [] h = refl
  higher i j P is l (x ∷ xs) h = let e = is i x h.0 in let n : (number x == j) ≡ false = ne_eqb (number x) j (λ q. omega (arith, q, e, l)) in
      rw (n, higher (i + 1) j P is (omega (arith, l)) xs h.1) refl

  places-differ : (i : ℕ) (P : ℕ → X → Type 0) → ((k : ℕ) (x : X) → P k x → number x ≡ k) → (xs : List X) → AllFrom i P xs → AreDistinct (map number xs)
  places-differ i P is [] h = tt
  places-differ i P is (x ∷ xs) h = (subst (λ j. among (map number xs) j ≡ false) (sym (is i x h.0)) (higher (i + 1) i P is (omega arith) xs h.1), places-differ (i + 1) P is xs h.1)

-- ---- nodes

numbered : {S : Type 0} (i : ℕ) (ns : List NodePlan) (ss : List S) → AllFrom i (λ k n. n.number ≡ k) (new_nodes i ns ss)
numbered i [] ss = tt
numbered i (n ∷ ns) [] = tt
numbered i (n ∷ ns) (s ∷ ss) = (refl, numbered (i + 1) ns ss)

-- each is new
record IsFresh {S : Type 0} (n : Node S) : Type 0 where
  state : S
  standing : n.standing ≡ New state

fresh : {S : Type 0} (i : ℕ) (ns : List NodePlan) (ss : List S) (n : Node S) → Among (new_nodes i ns ss) n → IsFresh n
fresh i [] ss n a = absurd a
fresh i (m ∷ ns) [] n a = absurd a
fresh i (m ∷ ns) (s ∷ ss) n (inl e) = record { state = s; standing = ap (λ (x : Node _). x.standing) (sym e) }
fresh i (m ∷ ns) (s ∷ ss) n (inr a) = fresh (i + 1) ns ss n a

-- a node that names a bus is among those that do
named : {S : Type 0} (bus i : ℕ) (ns : List NodePlan) (ss : List S) (n : Node S) → Among (new_nodes i ns ss) n → among n.buses bus ≡ true → Among (naming_from i ns bus) n.number
named bus i [] ss n a h = absurd a
named bus i (m ∷ ns) [] n a h = absurd a
named {S} bus i (m ∷ ns) (s ∷ ss) n (inl e) h = rw own (inl (ap (λ (x : Node S). x.number) e))
  where
    own : among m.buses bus ≡ true
    own = subst (λ bs. among bs bus ≡ true) (sym (ap (λ (x : Node S). x.buses) e)) h
named bus i (m ∷ ns) (s ∷ ss) n (inr a) h = go (among m.buses bus) (named bus (i + 1) ns ss n a h)
  where
    go : (q : Bool) → Among (naming_from (i + 1) ns bus) n.number → Among (if q then i ∷ naming_from (i + 1) ns bus else naming_from (i + 1) ns bus) n.number
    go true k = inr k
    go false k = k

-- and those rise
naming-rises : (bus i : ℕ) (ns : List NodePlan) → Rise i (naming_from i ns bus) (i + length ns)
naming-rises bus i [] = omega arith
naming-rises bus i (n ∷ ns) = go (among n.buses bus)
    (subst (λ k. Rise (i + 1) (naming_from (i + 1) ns bus) k) (same (length ns)) (naming-rises bus (i + 1) ns))
  where
    same : (k : ℕ) → i + 1 + k ≡ i + suc k
    same k = omega arith

    go : (q : Bool) → Rise (i + 1) (naming_from (i + 1) ns bus) (i + suc (length ns)) → Rise i (if q then i ∷ naming_from (i + 1) ns bus else naming_from (i + 1) ns bus) (i + suc (length ns))
    go true h = (omega arith, h)
    go false h = rise-lower i (i + 1) (naming_from (i + 1) ns bus) (i + suc (length ns)) (omega arith) h

-- ---- buses

module _ {S : Type 0} (p : Plan) (ok : IsPlan p) (states : List S) where
  nodes : List (Node S)
  nodes = new_nodes 0 p.nodes states

  bus-plan : (b : BusPlan) → Among p.buses b → (k : ℕ) × IsBusPlan p k b
  bus-plan b a = from-among 0 (IsBusPlan p) p.buses b ok.buses a

  setup-of : (b : BusPlan) → Among p.buses b → IsSetup b.setup
  setup-of b a = let r = bus-plan b a in All-each (λ e. IsKind e.kind 4) b.setup.errors
      (λ e c. let k = (each-All (IsEntry b.members) b.setup.errors e (r.1).errors c).kind in record { some = k.0; within = k.1 })

  bits-of : (b : BusPlan) → Among p.buses b → 1 ≤ b.setup.nominal
  bits-of b a = go b.setup.nominal ((bus-plan b a).1).rate.exact
    where
      go : (n : ℕ) → n * b.setup.rate ≡ p.resolution → 1 ≤ n
      go zero e = let l = (ok.resolution).0 in absurd (omega (arith, e, l))
      go (suc n) e = omega arith

  opened : (P : Bus → Type 0) → ((b : BusPlan) → Among p.buses b → P (new_bus b.setup b.members)) → All P (map (λ b. new_bus b.setup b.members) p.buses)
  opened P h = All-each P (map (λ b. new_bus b.setup b.members) p.buses)
      (λ b a. let r = map-among (λ b. new_bus b.setup b.members) p.buses b a in subst P r.2 (h r.0 r.1))

  of-node : (P : Standing S → Type 0) → ((s : S) → P (New s)) → All (λ n. P n.standing) (new_nodes 0 p.nodes states)
  of-node P h = All-each (λ n. P n.standing) (new_nodes 0 p.nodes states) (λ n a. let f = fresh 0 p.nodes states n a in subst P (sym f.standing) (h f.state))

  before-all : AllBefore 0 (new_nodes 0 p.nodes states)
  before-all = of-node (LastBefore 0) (λ s. tt)

  nobody-lives : (k : ℕ) → is_live_node (new_nodes 0 p.nodes states) k ≡ false
  nobody-lives k = none_from (λ n. (n.number == k) && is_live n.standing) (new_nodes 0 p.nodes states)
      (λ n a. let f = fresh 0 p.nodes states n a in go (n.number == k) (is_live n.standing) (ap is_live f.standing))
    where
      go : (x y : Bool) → y ≡ false → (x && y) ≡ false
      go true y e = e
      go false y e = refl

  member-there : (b : BusPlan) → Among p.buses b → (n : Node S) → Among (new_nodes 0 p.nodes states) n → among n.buses b.setup.number ≡ true → member_is (λ m. true) (map new_member b.members) n.number ≡ true
  member-there b a n c h =
      let r = bus-plan b a in
      let here : Among (naming_from 0 p.nodes r.0) n.number = named r.0 0 p.nodes states n c (subst (λ k. among n.buses k ≡ true) (r.1).number h) in
      is_from (λ m. true) (map new_member b.members) (new_member n.number) n.number
      (among-map new_member b.members n.number (subst (λ ms. Among ms n.number) (sym (r.1).members) here)) refl refl

  setup-number : map (λ b. b.setup.number) (map (λ b. new_bus b.setup b.members) p.buses) ≡ map (λ b. b.setup.number) p.buses
  setup-number = go p.buses
    where
      go : (bs : List BusPlan) → map (λ b. b.setup.number) (map (λ b. new_bus b.setup b.members) bs) ≡ map (λ b. b.setup.number) bs
      go [] = refl
      go (b ∷ bs) = rw (go bs) refl

  pub plan-opens : Fits (opening_of p states)
  plan-opens = record {
    sound = opened Sound (λ b a. let r = bus-plan b a in
        new_bus-sound b.setup b.members (0 + length p.nodes) (setup-of b a) (subst (λ ms. Rise 0 ms (0 + length p.nodes)) (sym (r.1).members) (naming-rises r.0 0 p.nodes)));
    bits = opened (λ b. 1 ≤ b.setup.nominal) bits-of;
    in_time = opened (InTime 0) (λ b a. new_bus-in-time b.setup b.members);
    clocks = of-node (ClocksFrom 0) (λ s. tt);
    lasts = of-node (LastBy 0) (λ s. tt);
    endings = opened (EndsBehind 0 (new_nodes 0 p.nodes states)) (λ b a. tt);
    mail = opened (MailBehind 0 (new_nodes 0 p.nodes states)) (λ b a. All-each (λ m. is_some m.mail ≡ true → AllBefore 0 (new_nodes 0 p.nodes states)) (map new_member b.members) (λ m c e. before-all));
    attached = opened (λ b. All (IsAttached b) (new_nodes 0 p.nodes states)) (λ b a. All-each (IsAttached (new_bus b.setup b.members)) (new_nodes 0 p.nodes states) (λ n c h. member-there b a n c h));
    joined = opened (IsJoined (new_nodes 0 p.nodes states)) (λ b a. All-each (λ m. m.live ≡ is_live_node (new_nodes 0 p.nodes states) m.node) (map new_member b.members)
        (λ m c. let r = map-among new_member b.members m c in ap (λ (x : Member). x.live) (sym r.2) ∙ sym (nobody-lives m.node)));
    bus_numbers = subst AreDistinct (sym setup-number) (places-differ (λ (b : BusPlan). b.setup.number) 0 (IsBusPlan p) (λ k b i. i.number) p.buses ok.buses);
    node_numbers = places-differ (λ (n : Node S). n.number) 0 (λ k n. n.number ≡ k) (λ k n e. e) (new_nodes 0 p.nodes states) (numbered 0 p.nodes states);
  }
