-- A network from its image, and the image of what is made.
use Rattle.std.proofs.Common.{◌≡◌, ℕ, ◌+◌, ◌==◌, Bool, true, false, if◌then◌else◌, List, [], ◌∷◌, map, length, Option, All, arith, sym, refl, ap, ◌∙◌, subst, inl, inr}
use Rattle.std.specs.Prelude.{◌&&◌, ◌||◌}
use Rattle.bus_images.specs.Images.{BusImage, bus_image, bus_from}
use Rattle.bus_images.proofs.Again.{bus-told, bus-saved}
use Rattle.bus_specs.specs.Bus.{Bus, Setup, Member, among}
use Rattle.bus_sound.proofs.Among.{Among}
use Rattle.bus_sound.proofs.Lists.{All-each, each-All}
use Rattle.network_images.specs.Images.{NodeImage, NetworkImage, New, Live, Down, Over, node_image, network_image, is_live, live_from, standing_from, nodes_from, buses_from, network_from}
use Rattle.world_specs.specs.World as world
use Rattle.world_specs.specs.World.{World, Node, Standing}
use Rattle.world_specs.specs.Plan.{BusPlan, NodePlan, Plan, new_nodes}
use Rattle.world_specs.specs.Fits.{Fits, IsJoined, is_live_node}
use Rattle.world_specs.specs.Fits as fits
use Rattle.state_laws.specs.Words.{IsAsPlanned}
use Rattle.saved_laws.specs.Images.{IsOf, AreOf, IsSaved, AreSaved, IsOfPlan}

module _ {S U : Type 0} (unit : S → U) where
  abbrev images : List (Node S) → List (NodeImage U)
  images nodes = map (λ n. node_image unit n.standing) nodes

  -- ---- who is live

  same-live : (v : Standing S) → is_live (node_image unit v) ≡ fits.is_live v
  same-live (world.New s) = refl
  same-live (world.Live s last clocks) = refl
  same-live world.Down = refl
  same-live world.Over = refl

  first-is : (x y : ℕ) (xs ys : List ℕ) → x ∷ xs ≡ y ∷ ys → x ≡ y
  first-is x y xs ys e = cc

  others-are : (x y : ℕ) (xs ys : List ℕ) → x ∷ xs ≡ y ∷ ys → xs ≡ ys
  others-are x y xs ys e = cc

  live-told : (k place : ℕ) (ns : List NodePlan) (ss : List S) (nodes : List (Node S))
      → map (λ n. n.number) nodes ≡ map (λ n. n.number) (new_nodes place ns ss)
      → among (live_from place (images nodes)) k ≡ is_live_node nodes k
  live-told k place ns ss [] e = refl
  live-told k place [] ss (x ∷ nodes) e = absurd cc
  live-told k place (n ∷ ns) [] (x ∷ nodes) e = absurd cc
  live-told k place (n ∷ ns) (s ∷ ss) (x ∷ nodes) e =
      let rest = live-told k (place + 1) ns ss nodes
      (others-are x.number place (map (λ n. n.number) nodes) (map (λ n. n.number) (new_nodes (place + 1) ns ss)) e) in
      let here = first-is x.number place (map (λ n. n.number) nodes) (map (λ n. n.number) (new_nodes (place + 1) ns ss)) e in
      go (is_live (node_image unit x.standing)) (same-live x.standing) here rest
    where
      none : (t r : Bool) → r ≡ ((t && false) || r)
      none true r = refl
      none false r = refl

      some : (t r : Bool) → (t || r) ≡ ((t && true) || r)
      some true r = refl
      some false r = refl

      go : (q : Bool) → q ≡ fits.is_live x.standing → x.number ≡ place
          → among (live_from (place + 1) (images nodes)) k ≡ is_live_node nodes k
          → among (if q then place ∷ live_from (place + 1) (images nodes) else live_from (place + 1) (images nodes)) k
          ≡ (((x.number == k) && fits.is_live x.standing) || is_live_node nodes k)
      go true l h r = rw (sym l, h, r) (some (place == k) (is_live_node nodes k))
      go false l h r = rw (sym l, r) (none (x.number == k) (is_live_node nodes k))

  -- ---- buses

  buses-again : (live : List ℕ) (bs : List Bus) (ps : List BusPlan) → map (λ b. b.setup) bs ≡ map (λ b. b.setup) ps
      → map (λ b. map (λ m. m.node) b.members) bs ≡ map (λ b. b.members) ps
      → ((b : Bus) → Among bs b → All (λ m. among live m.node ≡ m.live) b.members) → buses_from live ps (map bus_image bs) ≡ bs
  buses-again live [] [] e f h = refl
  buses-again live [] (p ∷ ps) e f h = refl
  buses-again live (b ∷ bs) [] e f h = absurd cc
  buses-again live (b ∷ bs) (p ∷ ps) e f h =
      let s : b.setup ≡ p.setup = cc in
      let more : map (λ b. b.setup) bs ≡ map (λ b. b.setup) ps = cc in
      let ns : map (λ m. m.node) b.members ≡ p.members = cc in
      let others : map (λ b. map (λ m. m.node) b.members) bs ≡ map (λ b. b.members) ps = cc in
      rw (sym s, sym ns, bus-told b live (h b (inl refl)), buses-again live bs ps more others (λ c a. h c (inr a))) refl

  -- ---- nodes

  standing-again : (s : S) (v : Standing S) → IsOf s v → standing_from s (node_image unit v) ≡ v
  standing-again s (world.New t) e = ap world.New e
  standing-again s (world.Live t last clocks) e = ap (λ x. world.Live x last clocks) e
  standing-again s world.Down e = refl
  standing-again s world.Over e = refl

  nodes-again : (place : ℕ) (ns : List NodePlan) (ss : List S) (nodes : List (Node S))
      → map (λ n. n.number) nodes ≡ map (λ n. n.number) (new_nodes place ns ss)
      → map (λ n. n.buses) nodes ≡ map (λ n. n.buses) (new_nodes place ns ss)
      → AreOf ss nodes → nodes_from place ns ss (images nodes) ≡ nodes
  nodes-again place ns [] [] e f h = go ns
    where
      go : (ns : List NodePlan) → nodes_from {S = S} {U = U} place ns [] [] ≡ []
      go [] = refl
      go (n ∷ ns) = refl
  nodes-again place ns [] (x ∷ nodes) e f h = absurd h
  nodes-again place ns (s ∷ ss) [] e f h = absurd h
  nodes-again place [] (s ∷ ss) (x ∷ nodes) e f h = absurd cc
  nodes-again place (n ∷ ns) (s ∷ ss) (x ∷ nodes) e f h =
      let number : x.number ≡ place = cc in
      let numbers : map (λ n. n.number) nodes ≡ map (λ n. n.number) (new_nodes (place + 1) ns ss) = cc in
      let buses : x.buses ≡ n.buses = cc in
      let terminals : map (λ n. n.buses) nodes ≡ map (λ n. n.buses) (new_nodes (place + 1) ns ss) = cc in
      rw (sym buses, standing-again s x.standing h.0, nodes-again (place + 1) ns ss nodes numbers terminals h.1)
      (ap (λ k. record x { number = k } ∷ nodes) (sym number))

  -- ---- the whole

  pub made-again : (p : Plan) (states : List S) (w : World S) → Fits w → IsAsPlanned p states w → AreOf states w.nodes
      → network_from p states (network_image unit w) ≡ w
  made-again p states w h planned are =
      let live : List ℕ = live_from 0 (images w.nodes) in
      let told = λ (b : Bus) (a : Among w.buses b). All-each (λ (m : Member). among live m.node ≡ m.live) b.members
      (λ m i. live-told m.node 0 p.nodes states w.nodes planned.numbers
      ∙ sym (each-All (λ (m : Member). m.live ≡ is_live_node w.nodes m.node) b.members m (each-All (IsJoined w.nodes) w.buses b h.joined a) i)) in
      ap (λ bs. record { events = w.events; now = w.now; buses = bs; nodes = nodes_from 0 p.nodes states (images w.nodes) })
      (buses-again live w.buses p.buses planned.setups planned.members told)
      ∙ ap (λ ns. record w { nodes = ns }) (nodes-again 0 p.nodes states w.nodes planned.numbers planned.terminals are)

  -- ---- the other way

  image-is : (s : S) (i : NodeImage U) → IsSaved unit s i → node_image unit (standing_from s i) ≡ i
  image-is s New e = refl
  image-is s (Live last clocks u) e = ap (Live last clocks) e
  image-is s Down e = refl
  image-is s Over e = refl

  images-are : (place : ℕ) (ns : List NodePlan) (ss : List S) (is : List (NodeImage U)) → length is ≡ length ns → AreSaved unit ss is
      → images (nodes_from place ns ss is) ≡ is
  images-are place [] [] [] e h = refl
  images-are place (n ∷ ns) [] [] e h = refl
  images-are place ns [] (i ∷ is) e h = absurd h
  images-are place ns (s ∷ ss) [] e h = absurd h
  images-are place [] (s ∷ ss) (i ∷ is) e h = absurd (omega (arith, e))
  images-are place (n ∷ ns) (s ∷ ss) (i ∷ is) e h = rw (image-is s i h.0, images-are (place + 1) ns ss is (omega (arith, e)) h.1) refl

  buses-are : (live : List ℕ) (ps : List BusPlan) (is : List BusImage)
      → map (λ (b : BusImage). length b.members) is ≡ map (λ (b : BusPlan). length b.members) ps → map bus_image (buses_from live ps is) ≡ is
  buses-are live [] [] e = refl
  buses-are live [] (i ∷ is) e = absurd cc
  buses-are live (p ∷ ps) [] e = absurd cc
  buses-are live (p ∷ ps) (i ∷ is) e =
      let one : length i.members ≡ length p.members = cc in
      let others : map (λ (b : BusImage). length b.members) is ≡ map (λ (b : BusPlan). length b.members) ps = cc in
      rw (bus-saved p.setup p.members live i one, buses-are live ps is others) refl

  pub made-is-saved : (p : Plan) (states : List S) (i : NetworkImage U) → IsOfPlan p i → AreSaved unit states i.nodes
      → network_image unit (network_from p states i) ≡ i
  made-is-saved p states i h saved =
      ap (λ bs. record { events = i.events; now = i.now; buses = bs; nodes = images (nodes_from 0 p.nodes states i.nodes) })
      (buses-are (live_from 0 i.nodes) p.buses i.buses h.members)
      ∙ ap (λ ns. record i { nodes = ns }) (images-are 0 p.nodes states i.nodes h.nodes saved)
