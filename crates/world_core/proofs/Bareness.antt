-- Turns without the states of the units do the same, and nodes may have them.
use Rattle.std.proofs.Common.{◌≡◌, ◌<◌, ◌≤◌, ◌+◌, ◌*◌, ◌^◌, ◌⊎◌, ℕ, true, false, if◌then◌else◌, List, [], ◌∷◌, All, fold, length, map, arith, refl, sym, ap, ◌∙◌, inl, inr}
use Rattle.std.specs.Prelude.{◌==◌}
use Rattle.std.proofs.lemmas.Bool.{both_ways, ne_eqb}
use Rattle.std.proofs.lemmas.List.{length-map}
use Rattle.fmi_states.specs.Reply.{AreBytes}
use Rattle.log_specs.specs.Line.{Line}
use Rattle.session_specs.specs.Outcome.{Emission}
use Rattle.bus_specs.specs.Bus.{Bus, Member, among, member_is}
use Rattle.bus_specs.specs.Inbox.{enter}
use Rattle.bus_specs.specs.Sound.{Sound}
use Rattle.bus_sound.proofs.Among.{Among}
use Rattle.bus_sound.proofs.Lists.{All-each, each-All}
use Rattle.bus_sound.proofs.Members.{is_from, is_to}
use Rattle.world_specs.specs.Units.{Units}
use Rattle.world_specs.specs.World.{Standing, New, Live, Down, Over, World}
use Rattle.world_specs.specs.Fits.{Fits, UnitsFit}
use Rattle.world_specs.specs.Sessions.{Turn, is_new, turn_step, turns, turns_step, with_entered}
use Rattle.world_laws.specs.Words.{IsCounted}
use Rattle.world_laws.proofs.Counted.{turn-count}
use Rattle.state_laws.specs.Within.{counted_nodes}
use Rattle.world_laws.proofs.Fitting.{differ, emitted-bytes, may-turn}
use Rattle.world_laws.proofs.Lists.{all-map}
use Rattle.world_laws.proofs.Sounded.{Differ}
use Rattle.world_core.specs.Bare.{AreTurns, Bare, IsExpected, standing_if}
use Rattle.world_core.specs.Walked.{bare_of}

module _ {S : Type 0} where
  newness-kept : (v : Standing S) → is_new (standing_if (is_new v)) ≡ is_new v
  newness-kept (New s) = refl
  newness-kept (Live s last clocks) = refl
  newness-kept Down = refl
  newness-kept Over = refl

  enters-same : (xs : List (Turn S)) (bs : List Bus) → fold with_entered bs (map bare_of xs) ≡ fold with_entered bs xs
  enters-same [] bs = refl
  enters-same (x ∷ xs) bs =
      ap (λ cs. fold with_entered cs (map bare_of xs)) (ap (λ q. if q then map (λ b. enter b x.node.number) bs else bs) (newness-kept x.node.standing))
      ∙ enters-same xs (with_entered bs x)

  steps-same : (now : ℕ) (xs : List (Turn S)) (p : List Bus × List Line) → fold (turn_step now) p (map bare_of xs) ≡ fold (turn_step now) p xs
  steps-same now [] p = refl
  steps-same now (x ∷ xs) p = steps-same now xs (turn_step now p x)

  pub turns-same : (now : ℕ) (bs : List Bus) (xs : List (Turn S)) → turns_step now bs (map bare_of xs) ≡ turns_step now bs xs
  turns-same now bs xs = ap (λ cs. fold (turn_step now) (cs, []) (map bare_of xs)) (enters-same xs bs) ∙ steps-same now xs (fold with_entered bs xs, [])

  -- ---- they are turns of different nodes, which emit bytes

  others : (xs : List (Turn S)) (k : ℕ) → ((y : Turn S) → Among xs y → y.node.number ≡ k → ⊥) → among (map (λ (y : Bare). y.node.number) (map bare_of xs)) k ≡ false
  others [] k n = refl
  others (y ∷ ys) k n =
      let other : (y.node.number == k) ≡ false = ne_eqb y.node.number k (λ e. n y (inl refl) e) in
      rw other (others ys k (λ z a. n z (inr a)))

  turns-from : (t : ℕ) (xs : List (Turn S)) → Differ t xs → ((x : Turn S) → Among xs x → All (λ (e : Emission). AreBytes e.bytes) x.out.emitted) → AreTurns (map bare_of xs)
  turns-from t [] d b = tt
  turns-from t (x ∷ xs) d b = (others xs x.node.number d.0, b x (inl refl), turns-from t xs d.1 (λ y a. b y (inr a)))

  all-bare : (Q : Bare → Type 0) (xs : List (Turn S)) → ((x : Turn S) → Among xs x → Q (bare_of x)) → All Q (map bare_of xs)
  all-bare Q xs f = all-map (λ (x : Turn S). Q (bare_of x)) Q bare_of xs (λ x a p. p) (All-each (λ (x : Turn S). Q (bare_of x)) xs f)

-- ---- what holds of a network lets its nodes have their turns

module _ {S : Type 0} (u : Units S) (w : World S) (h : Fits w) (fit : UnitsFit u) (t : ℕ) where
  pub turns-fit : AreTurns (map bare_of (turns u w.buses t w.nodes))
  turns-fit = turns-from t (turns u w.buses t w.nodes) (differ u w h t w.nodes h.node_numbers) (λ x a. emitted-bytes u w h fit t x a)

  module _ (counted : All (IsCounted counted_nodes w.events) w.buses) (few : length w.nodes ≤ 32) (within : w.events ≤ 10 ^ 8) where
    room : (b : Bus) → Among w.buses b → b.next + 256 * length (map (bare_of {S = S}) (turns u w.buses t w.nodes)) < 2 ^ 63
    room b a =
        let c = each-All (IsCounted counted_nodes w.events) w.buses b counted a in
        let many : length (map (bare_of {S = S}) (turns u w.buses t w.nodes)) ≡ length (turns u w.buses t w.nodes) = length-map (turns u w.buses t w.nodes) bare_of in
        let count = turn-count u w.buses t w.nodes in
        let asked = c.numbers in
        omega (arith, asked, within, many, count, few)

    live : (b : Bus) → Among w.buses b → (x : Turn S) → Among (turns u w.buses t w.nodes) x → is_new (standing_if (is_new x.node.standing)) ≡ false → among x.node.buses b.setup.number ≡ true
        → member_is (λ m. m.live) b.members x.node.number ≡ true
    live b a x i old n = go (may-turn u w h t b a x i).lives
      where
        go : (is_new x.node.standing ≡ true) ⊎ ((m : Member) → Among b.members m → m.node ≡ x.node.number → m.live ≡ true) → member_is (λ m. m.live) b.members x.node.number ≡ true
        go (inl new) = absurd (both_ways (is_new x.node.standing) (sym (newness-kept x.node.standing) ∙ old) new)
        go (inr f) =
            let s = is_to (λ (m : Member). true) b.members x.node.number ((may-turn u w h t b a x i).member n) in
            is_from (λ (m : Member). m.live) b.members s.member x.node.number s.among s.node (f s.member s.among s.node)

    pub all-expected : All (IsExpected (map bare_of (turns u w.buses t w.nodes))) w.buses
    all-expected = All-each (IsExpected (map bare_of (turns u w.buses t w.nodes))) w.buses (λ b a. record {
      sound = each-All Sound w.buses b h.sound a;
      room = room b a;
      member = all-bare (λ (x : Bare). among x.node.buses b.setup.number ≡ true → member_is (λ m. true) b.members x.node.number ≡ true) (turns u w.buses t w.nodes)
          (λ x i. (may-turn u w h t b a x i).member);
      live = all-bare (λ (x : Bare). is_new x.node.standing ≡ false → among x.node.buses b.setup.number ≡ true → member_is (λ m. m.live) b.members x.node.number ≡ true) (turns u w.buses t w.nodes)
          (λ x i. live b a x i);
    })
