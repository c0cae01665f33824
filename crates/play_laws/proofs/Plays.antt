-- Each play is a scenario that fits.
use Rattle.std.proofs.Common.{◌≡◌, ◌≤◌, ◌<◌, ℕ, zero, suc, ◌+◌, ◌*◌, ◌/◌, ◌%◌, ◌==◌, Bool, true, false, List, [], ◌∷◌, map, refl, arith, subst, eq-eqb}
use Rattle.std.specs.List.{range_with_len}
use Rattle.std.proofs.Math.Nat.{div-add-mod}
use Rattle.std.proofs.lemmas.Bool.{or_left, or_right}
use Rattle.std.proofs.lemmas.List.Elements.{All-weaker}
use Rattle.bus_specs.specs.Bus.{among}
use Rattle.play_specs.specs.Play.{Play, PlayAction, IsPlay, Rises, action_of, scenario_of, setup_of}
use Rattle.play_specs.proofs.Scenarios.{IsPossible, actions-IsPossible, nodes_of-Rise, setup_of-IsSetup}
use Rattle.log_laws.specs.Scenarios.{IsScenario, Acts}
use Rattle.log_laws.specs.Moments.{ByMoment, Rising}

in-range : (from n k : ℕ) → from ≤ k → k < from + n → among (range_with_len from n) k ≡ true
in-range from zero k low high = absurd (omega (arith, low, high))
in-range from (suc n) k low high = go (from == k) refl (λ l. in-range (from + 1) n k (omega (arith, l)) (omega (arith, high)))
  where
    apart : (t : Bool) → (from == k) ≡ t → t ≡ false → from < k
    apart t e f = grind (arith, e, f, low, eq-eqb)

    go : (t : Bool) → (from == k) ≡ t → (from < k → among (range_with_len (from + 1) n) k ≡ true) → among (range_with_len from (suc n)) k ≡ true
    go true e on = or_left (from == k) (among (range_with_len (from + 1) n) k) e
    go false e on = or_right (from == k) (among (range_with_len (from + 1) n) k) (on (apart false e refl))

pub play-scenario : (p : Play) → IsPlay p → IsScenario (scenario_of p)
play-scenario p is = record {
  setup = setup_of-IsSetup p is;
  nodes = (0 + p.nodes, nodes_of-Rise p);
  actions = All-weaker (IsPossible p.nodes) (Acts (scenario_of p))
      (λ a x. record { node = in-range 0 p.nodes a.node (omega arith) (omega (arith, x.node)); item = x.item }) (scenario_of p).actions (actions-IsPossible p is);
}

rising : (last : ℕ) (as' : List PlayAction) → Rises last as' → Rising last (map action_of as')
rising last [] h = tt
rising last (a ∷ as') h = (h.0, rising a.moment as' h.1)

pub play-by_moment : (p : Play) → IsPlay p → ByMoment (scenario_of p)
play-by_moment p is = rising 0 p.actions is.rises

some-ticks : (resolution rate : ℕ) → 1 ≤ resolution → resolution % rate ≡ 0 → 1 ≤ resolution / rate
some-ticks resolution rate some whole = go (resolution / rate) refl
  where
    go : (n : ℕ) → resolution / rate ≡ n → 1 ≤ n
    go zero e =
        let split : rate * zero + resolution % rate ≡ resolution = subst (λ q. rate * q + resolution % rate ≡ resolution) e (div-add-mod resolution rate) in
        absurd (omega (arith, split, some, whole))
    go (suc n) e = omega arith

pub play-tick : (p : Play) → IsPlay p → 1 ≤ (setup_of p).nominal
play-tick p is = some-ticks p.resolution p.rate is.resolution.0 (is.rate).divides
