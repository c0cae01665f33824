-- Sessions one after another in any order.
use Rattle.std.proofs.Common.{◌≡◌, ℕ, ◌==◌, ◌||◌, Bool, true, false, if◌then◌else◌, List, [], ◌∷◌, ◌++◌, filter, fold, map, refl, sym, ap, ◌∙◌, subst, append_assoc, append-nil}
use Rattle.std.specs.List.{flat_map}
use Rattle.std.proofs.lemmas.Bool.{eqb-true, eqb-false, ne_eqb, or_parts}
use Rattle.bus_specs.specs.Bus.{Bus, among}
use Rattle.bus_sound.proofs.Lists.{each-All}
use Rattle.world_specs.specs.Units.{Units}
use Rattle.world_specs.specs.World.{AreDistinct, Node}
use Rattle.world_specs.specs.Sessions.{takes_part, node_after}
use Rattle.world_laws.specs.Words.{Covers, with_node, nodes_in_order, turns_of, Progress, one_more, progress_in_order}
use Rattle.world_laws.proofs.Lists.{map-map, map-same, map-id}
use Rattle.world_laws.proofs.Changed.{number-stays, not-called-stays}

module _ {S : Type 0} (change : Node S → Node S) (same-number : (n : Node S) → (change n).number ≡ n.number) where
  abbrev once : List ℕ → Node S → Node S
  once order n = if among order n.number then change n else n

  -- one more change at the front
  once-more : (k : ℕ) (order : List ℕ) (n : Node S) → among order k ≡ false
      → once order (if k == n.number then change n else n) ≡ once (k ∷ order) n
  once-more k order n free = go (k == n.number) refl
    where
      go : (b : Bool) → (k == n.number) ≡ b
          → once order (if b then change n else n) ≡ (if b || among order n.number then change n else n)
      go true e =
          let absent : among order (change n).number ≡ false = subst (λ j. among order j ≡ false) (eqb-true k n.number e ∙ sym (same-number n)) free in
          rw absent refl
      go false e = refl

  pub folds-once : (order : List ℕ) (nodes : List (Node S)) → AreDistinct order → fold (with_node change) nodes order ≡ map (once order) nodes
  folds-once [] nodes d = sym (map-id nodes)
  folds-once (k ∷ order) nodes d =
      folds-once order (with_node change nodes k) d.1
      ∙ map-map (once order) (λ n. if k == n.number then change n else n) nodes
      ∙ map-same (λ n. once order (if k == n.number then change n else n)) (once (k ∷ order)) nodes (λ n a. once-more k order n d.0)

module _ {S : Type 0} (u : Units S) (buses : List Bus) (t : ℕ) where
  covered : (order : List ℕ) (n : Node S) → (takes_part buses t n ≡ true → among order n.number ≡ true)
      → once (node_after u buses t) (number-stays u buses t) order n ≡ node_after u buses t n
  covered order n h = go (takes_part buses t n) refl
    where
      go : (b : Bool) → takes_part buses t n ≡ b → once (node_after u buses t) (number-stays u buses t) order n ≡ node_after u buses t n
      go true e = rw (h e) refl
      go false e = either (among order n.number) (sym (not-called-stays u buses t n e))
        where
          either : (b : Bool) → n ≡ node_after u buses t n → (if b then node_after u buses t n else n) ≡ node_after u buses t n
          either true s = refl
          either false s = s

  pub any-order : (nodes : List (Node S)) (order : List ℕ) → AreDistinct order → Covers buses t nodes order
      → nodes_in_order u buses t nodes order ≡ map (node_after u buses t) nodes
  any-order nodes order d c =
      folds-once (node_after u buses t) (number-stays u buses t) order nodes d
      ∙ map-same (once (node_after u buses t) (number-stays u buses t) order) (node_after u buses t) nodes
      (λ n a. covered order n (each-All (λ m. takes_part buses t m ≡ true → among order m.number ≡ true) nodes n c a))

  -- a session of one number leaves the nodes of another
  others-filter : (j k : ℕ) → (j ≡ k → ⊥) → (ns : List (Node S)) → filter (λ n. k == n.number) (with_node (node_after u buses t) ns j) ≡ filter (λ n. k == n.number) ns
  others-filter j k ne [] = refl
  others-filter j k ne (n ∷ ns) = go (j == n.number) refl (others-filter j k ne ns)
    where
      go : (b : Bool) → (j == n.number) ≡ b → filter (λ n. k == n.number) (with_node (node_after u buses t) ns j) ≡ filter (λ n. k == n.number) ns
          → filter (λ n. k == n.number) ((if b then node_after u buses t n else n) ∷ with_node (node_after u buses t) ns j) ≡ filter (λ n. k == n.number) (n ∷ ns)
      go true e on =
          let s : j ≡ n.number = eqb-true j n.number e in
          let d : (k == n.number) ≡ false = ne_eqb k n.number (λ q. ne (s ∙ sym q)) in
          let d' : (k == (node_after u buses t n).number) ≡ false = ap (λ i. k == i) (number-stays u buses t n) ∙ d in
          rw (d', d, on) refl
      go false e on = rw on refl

  later-turns : (j : ℕ) (order : List ℕ) → among order j ≡ false → (ns : List (Node S))
      → flat_map (turns_of u buses t (with_node (node_after u buses t) ns j)) order ≡ flat_map (turns_of u buses t ns) order
  later-turns j [] free ns = refl
  later-turns j (k ∷ order) free ns =
      let parts = or_parts (k == j) (among order j) free in
      rw (others-filter j k (λ e. eqb-false k j parts.0 (sym e)) ns, later-turns j order parts.1 ns) refl

  noted : (order : List ℕ) → AreDistinct order → (p : Progress S)
      → (fold (one_more u buses t) p order).turns ≡ p.turns ++ flat_map (turns_of u buses t p.nodes) order
  noted [] d p = sym (append-nil p.turns)
  noted (k ∷ order) d p =
      noted order d.1 (one_more u buses t p k)
      ∙ rw (later-turns k order d.0 p.nodes) (append_assoc p.turns (turns_of u buses t p.nodes k) (flat_map (turns_of u buses t p.nodes) order))

  pub all-noted : (ns : List (Node S)) (order : List ℕ) → AreDistinct order
      → (progress_in_order u buses t ns order).turns ≡ flat_map (turns_of u buses t ns) order
  all-noted ns order d = noted order d (record { nodes = ns; turns = [] })
