-- Members from their images, and images of the members that are made from them.
use Rattle.std.proofs.Common.{◌≡◌, ℕ, ◌==◌, Bool, true, false, if◌then◌else◌, List, [], ◌∷◌, map, filter_map, length}
use Rattle.std.proofs.Common.{All, Option, Some, None, arith, sym, refl, ap, ◌∙◌, eq-eqb}
use Rattle.std.proofs.lemmas.Bool.{both_ways, false_from_ne_true, eqb-true}
use Rattle.std.proofs.lemmas.List.Elements.{All-head, All-tail}
use Rattle.bus_specs.specs.Bus.{Setup, Bus, Member, among}
use Rattle.bus_specs.specs.Sound.{Rise}
use Rattle.bus_sound.proofs.Among.{Among, filter_map-among, among-filter_map}
use Rattle.bus_sound.proofs.Lists.{All-each, any_from, any_to, unique}
use Rattle.bus_images.specs.Images.{BusImage, MemberImage, member_image, bus_image, member_from, members_from, bus_from, live_nodes}

abbrev nodes_of : List Member → List ℕ
nodes_of ms = map (λ m. m.node) ms

-- whether the list tells of a member what it is
abbrev IsTold : List ℕ → Member → Type 0
IsTold live m = among live m.node ≡ m.live

member-again : (live : List ℕ) (m : Member) → IsTold live m → member_from live m.node (member_image m) ≡ m
member-again live m e = ap (λ l. record m { live = l }) e

members-again : (live : List ℕ) (ms : List Member) → All (IsTold live) ms → members_from live (nodes_of ms) (map member_image ms) ≡ ms
members-again live [] h = refl
members-again live (m ∷ ms) h =
    rw (members-again live ms (All-tail (IsTold live) m ms h)) (ap (λ x. x ∷ ms) (member-again live m (All-head (IsTold live) m ms h)))

pub bus-told : (b : Bus) (live : List ℕ) → All (λ m. among live m.node ≡ m.live) b.members
    → bus_from b.setup (nodes_of b.members) live (bus_image b) ≡ b
bus-told b live h = ap (λ ms. record b { members = ms }) (members-again live b.members h)

-- ---- the nodes that are live tell it

abbrev live_node : Member → Option ℕ
live_node m = if m.live then Some m.node else None

live-node : (m : Member) → m.live ≡ true → live_node m ≡ Some m.node
live-node m e = rw e refl

-- what stands for a member that is live
record IsLiveAt (m : Member) (node : ℕ) : Type 0 where
  live : m.live ≡ true
  node_is : m.node ≡ node

live-at : (m : Member) (node : ℕ) → live_node m ≡ Some node → IsLiveAt m node
live-at m node e = go m.live refl e
  where
    go : (b : Bool) → m.live ≡ b → (if b then Some m.node else None) ≡ Some node → IsLiveAt m node
    go true l s = record { live = l; node_is = cc }
    go false l s = absurd cc

live-told : (ms : List Member) (last : ℕ) → Rise 0 (nodes_of ms) last → (m : Member) → Among ms m → IsTold (filter_map live_node ms) m
live-told ms last rise m a = go m.live refl
  where
    live : List ℕ
    live = filter_map live_node ms

    same : (x : Member) → Among ms x → x.node ≡ m.node → x ≡ m
    same x among e = unique (λ (y : Member). y.node) 0 ms x m last rise among a e

    go : (b : Bool) → m.live ≡ b → among live m.node ≡ b
    go true e =
        any_from (λ n. n == m.node) live m.node (among-filter_map live_node ms m m.node a (live-node m e)) (eq-eqb m.node m.node refl)
    go false e = false_from_ne_true (among live m.node) (λ h.
        let found = any_to (λ n. n == m.node) live h in
        let from = filter_map-among live_node ms found.0 found.1 in
        let is = live-at from.0 found.0 from.2 in
        let node : (from.0).node ≡ m.node = is.node_is ∙ eqb-true found.0 m.node found.2 in
        both_ways m.live e (ap (λ x. x.live) (sym (same from.0 from.1 node)) ∙ is.live))

pub bus-again : (b : Bus) (last : ℕ) → Rise 0 (nodes_of b.members) last
    → bus_from b.setup (nodes_of b.members) (live_nodes b) (bus_image b) ≡ b
bus-again b last rise = bus-told b (live_nodes b) (All-each (IsTold (live_nodes b)) b.members (live-told b.members last rise))

-- ---- what is made is saved

members-saved : (live nodes : List ℕ) (is : List MemberImage) → length is ≡ length nodes
    → map member_image (members_from live nodes is) ≡ is
members-saved live [] [] e = refl
members-saved live [] (i ∷ is) e = absurd (omega (arith, e))
members-saved live (n ∷ ns) [] e = absurd (omega (arith, e))
members-saved live (n ∷ ns) (i ∷ is) e = ap (λ js. i ∷ js) (members-saved live ns is (omega (arith, e)))

pub bus-saved : (s : Setup) (nodes live : List ℕ) (i : BusImage) → length i.members ≡ length nodes → bus_image (bus_from s nodes live i) ≡ i
bus-saved s nodes live i e = ap (λ ms. record i { members = ms }) (members-saved live nodes i.members e)

members-nodes : (live nodes : List ℕ) (is : List MemberImage) → length is ≡ length nodes → nodes_of (members_from live nodes is) ≡ nodes
members-nodes live [] [] e = refl
members-nodes live [] (i ∷ is) e = absurd (omega (arith, e))
members-nodes live (n ∷ ns) [] e = absurd (omega (arith, e))
members-nodes live (n ∷ ns) (i ∷ is) e = ap (λ ms. n ∷ ms) (members-nodes live ns is (omega (arith, e)))

pub bus-nodes : (s : Setup) (nodes live : List ℕ) (i : BusImage) → length i.members ≡ length nodes
    → map (λ m. m.node) (bus_from s nodes live i).members ≡ nodes
bus-nodes s nodes live i e = members-nodes live nodes i.members e
