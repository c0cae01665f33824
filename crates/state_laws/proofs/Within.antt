-- A network stays within its bounds: as it opens, behind each event, and along a run.
use Rattle.std.proofs.Common.{◌≡◌, ◌≢◌, ◌≤◌, ◌<◌, ℕ, zero, suc, ◌+◌, ◌*◌, ◌^◌, false, List, [], ◌∷◌, map, length, Option, Some, None, All, arith}
use Rattle.std.proofs.Common.{refl, sym, ap, ◌∙◌, subst}
use Rattle.std.specs.Prelude.{option_map}
use Rattle.std.proofs.lemmas.List.{length-map}
use Rattle.run_specs.specs.Run.{behind, then_from}
use Rattle.bus_specs.specs.Bus.{Bus, Setup, new_bus, data_bit}
use Rattle.bus_specs.specs.Sound.{Sound}
use Rattle.bus_sound.proofs.Among.{Among}
use Rattle.bus_sound.proofs.Lists.{All-each, each-All, map-among, among-map}
use Rattle.world_specs.specs.Units.{Units}
use Rattle.world_specs.specs.World.{World, Node, Standing}
use Rattle.world_specs.specs.Next.{Event, next_event}
use Rattle.world_specs.specs.Sessions.{is_new}
use Rattle.world_specs.specs.Step.{world_behind, event_lines}
use Rattle.world_specs.specs.Network.{network, step}
use Rattle.world_specs.specs.Plan.{BusPlan, NodePlan, Plan, IsPlan, new_nodes, opening_of}
use Rattle.world_specs.specs.Fits.{UnitsFit}
use Rattle.world_laws.specs.Words.{IsCounted}
use Rattle.world_laws.proofs.Lists.{all-more}
use Rattle.world_laws.proofs.OneBus.{bus_behind, each-bus}
use Rattle.world_laws.proofs.Order.{next-within}
use Rattle.world_laws.proofs.Opens.{plan-opens}
use Rattle.world_laws.proofs.Fitting.{fits-step}
use Rattle.world_laws.proofs.Counted.{counted-within}
use Rattle.state_laws.specs.Words.{IsDueBy, IdentifiersBelow, ClocksBy, IsShort, Bounded, SetsWithin, HasBegun, IsNewAtFirst, IsAsPlanned}
use Rattle.state_laws.specs.Within.{latest, counted_nodes, IsInRange, IsWithin}
use Rattle.state_laws.proofs.Numbers.{Numbered, numbered-behind}
use Rattle.state_laws.proofs.Opening.{fresh, plan-bits, opens-bounded}
use Rattle.state_laws.proofs.Moments.{buses-keep, clocks-keep}
use Rattle.state_laws.proofs.Begun.{first-begins, stays-begun}
use Rattle.state_laws.proofs.Planned.{stays-planned, opens-planned}

-- the number of a running frame has 64 bits
abbrev Has64 : Bus → Type 0
Has64 = Numbered (λ n given. n < 2 ^ 64) (λ n given more l h. h)

-- ---- one event

module _ {S : Type 0} (u : Units S) (p : Plan) (states : List S) (w : World S) (e : Event) where
  begun-behind : IsNewAtFirst p states w → next_event p.stop w ≡ Some e → HasBegun (world_behind u w e)
  begun-behind h next = go w.events refl
    where
      go : (n : ℕ) → w.events ≡ n → HasBegun (world_behind u w e)
      go zero q =
          let o = h.opens q in
          subst (λ (v : World S). HasBegun (world_behind u v e)) (sym o)
          (first-begins u p states p.stop e (subst (λ (v : World S). next_event p.stop v ≡ Some e) o next))
      go (suc n) q = stays-begun u w e (h.begun (λ z. absurd (omega (arith, q, z))))

  pub within-step : (after : List S) → UnitsFit u → SetsWithin (2 ^ 62) u → IsPlan p → All IsShort w.buses → length w.nodes ≤ counted_nodes
      → w.events < p.events → next_event p.stop w ≡ Some e → IsWithin p states w → IsWithin p after (world_behind u w e)
  within-step after fit sets plan short few left next h =
      let l = next-within p.stop w e next in
      let m = plan.stop in
      let most = plan.events.1 in
      let kept = buses-keep u latest (10 ^ 12) (2 ^ 32) (omega arith) w e (omega (arith, l, m)) h.fits bounded in
      let started : All Has64 (world_behind u w e).buses = each-bus u w e.moment e.what Has64 Has64
      (λ b a i. numbered-behind (λ n given. n < 2 ^ 64) (λ n given more l h. h) u w e.moment e.what b
      (each-All Sound w.buses b h.fits.sound a)
      (λ n below. let c = (each-All (IsCounted counted_nodes w.events) w.buses b h.counted a).numbers in
      omega (arith, below, c, left, most)) i)
      (all-more IsInRange Has64 w.buses (λ b a r. r.running) h.ranges) in
      record {
        fits = fits-step u p.stop w e fit h.fits next;
        events = omega (arith, left);
        now = l;
        new = record { opens = λ z. absurd (omega (arith, z)); begun = λ n. begun-behind h.new next };
        counted = counted-within u w e counted_nodes few h.fits h.counted;
        due = all-more (Bounded latest (10 ^ 12) (2 ^ 32)) (IsDueBy latest) (world_behind u w e).buses (λ b a i. i.due) kept;
        clocks = clocks-keep u latest (2 ^ 62) w e sets (omega (arith, l, m)) h.clocks;
        ranges = All-each IsInRange (world_behind u w e).buses (λ b a. record {
          identifiers = (each-All (Bounded latest (10 ^ 12) (2 ^ 32)) (world_behind u w e).buses b kept a).identifiers;
          running = each-All Has64 (world_behind u w e).buses b started a;
        });
      }
    where
      bounded : All (Bounded latest (10 ^ 12) (2 ^ 32)) w.buses
      bounded = All-each (Bounded latest (10 ^ 12) (2 ^ 32)) w.buses (λ b a.
          let s = each-All IsShort w.buses b short a in record {
            nominal = s.nominal;
            fast = s.fast;
            due = each-All (IsDueBy latest) w.buses b h.due a;
            identifiers = (each-All IsInRange w.buses b h.ranges a).identifiers;
          })

-- ---- the opening

pub within-opens : {S : Type 0} (p : Plan) (states : List S) → IsPlan p → IsWithin p states (opening_of p states)
within-opens {S} p states plan =
    let buses : List Bus = map (λ b. new_bus b.setup b.members) p.buses in
    let bounded : All (Bounded latest (10 ^ 12) (2 ^ 32)) buses = opens-bounded p states latest (2 ^ 32) plan in
    record {
      fits = plan-opens p plan states;
      events = omega arith;
      now = omega arith;
      new = record { opens = λ z. refl; begun = λ n. absurd (n refl) };
      counted = All-each (IsCounted counted_nodes 0) buses
          (λ b a. let r = map-among (λ b. new_bus b.setup b.members) p.buses b a in
          subst (IsCounted counted_nodes 0) r.2 (record { attempts = omega arith; numbers = omega arith }));
      due = all-more (Bounded latest (10 ^ 12) (2 ^ 32)) (IsDueBy latest) buses (λ b a i. i.due) bounded;
      clocks = All-each (λ (n : Node S). ClocksBy latest n.standing) (new_nodes 0 p.nodes states)
          (λ n a. let f = fresh 0 p.nodes states n a in subst (λ (s : Standing S). ClocksBy latest s) (sym f.standing) tt);
      ranges = All-each IsInRange buses (λ b a. record {
        identifiers = (each-All (Bounded latest (10 ^ 12) (2 ^ 32)) buses b bounded a).identifiers;
        running = let r = map-among (λ b. new_bus b.setup b.members) p.buses b a in subst Has64 r.2 tt;
      });
    }

-- ---- what is planned has short bits and few nodes

new-most : {S : Type 0} (place : ℕ) (ns : List NodePlan) (ss : List S) → length (new_nodes place ns ss) ≤ length ns
new-most place [] ss = omega arith
new-most place (n ∷ ns) [] = omega arith
new-most place (n ∷ ns) (s ∷ ss) = let le = new-most (place + 1) ns ss in omega (arith, le)

module _ {S : Type 0} (p : Plan) (plan : IsPlan p) (states : List S) (w : World S) (h : IsAsPlanned p states w) where
  pub planned-short : All IsShort w.buses
  planned-short = All-each IsShort w.buses (λ b a. one b (subst (λ ss. Among ss b.setup) h.setups (among-map (λ (b : Bus). b.setup) w.buses b a)))
    where
      one : (b : Bus) → Among (map (λ (b : BusPlan). b.setup) p.buses) b.setup → IsShort b
      one b a =
          let r = map-among (λ (b : BusPlan). b.setup) p.buses b.setup a in
          let q = plan-bits p plan r.0 r.1 in
          record {
            nominal = subst (λ (s : Setup). s.nominal ≤ 10 ^ 12) r.2 q.0;
            fast = subst (λ (s : Setup). data_bit (new_bus s []) ≤ 10 ^ 12) r.2 q.1;
          }

  pub planned-few : length w.nodes ≤ counted_nodes
  planned-few =
      let same : length w.nodes ≡ length (new_nodes 0 p.nodes states) =
      sym (length-map w.nodes (λ (n : Node S). n.number)) ∙ ap (λ (ns : List ℕ). length ns) h.numbers
      ∙ length-map (new_nodes 0 p.nodes states) (λ (n : Node S). n.number) in
      let most = new-most 0 p.nodes states in
      let few = plan.some_nodes.1 in
      omega (arith, same, most, few)

-- ---- along a run

pub within-along : {S : Type 0} (u : Units S) (p : Plan) (states : List S) → UnitsFit u → SetsWithin (2 ^ 62) u → IsPlan p
    → (k : ℕ) (w : World S) → w.events + k ≤ p.events → IsAsPlanned p states w → IsWithin p states w
    → IsWithin p states (behind (network u p.stop) k w)
unfolding behind step
within-along u p states fit sets plan zero w room planned h = h
within-along {S} u p states fit sets plan (suc k) w room planned h = go (next_event p.stop w) refl (λ v. within-along u p states fit sets plan k v)
  where
    go : (o : Option Event) → next_event p.stop w ≡ o
        → ((v : World S) → v.events + k ≤ p.events → IsAsPlanned p states v → IsWithin p states v
        → IsWithin p states (behind (network u p.stop) k v))
        → IsWithin p states (then_from w (λ q. behind (network u p.stop) k q.0) (option_map (λ e. (world_behind u w e, event_lines u w e)) o))
    go None q on = h
    go (Some e) q on = on (world_behind u w e) (omega (arith, room)) (stays-planned u p states w e planned)
        (within-step u p states w e states fit sets plan (planned-short p plan states w planned) (planned-few p plan states w planned)
        (omega (arith, room)) q h)

pub opens-along : {S : Type 0} (u : Units S) (p : Plan) (states : List S) → UnitsFit u → SetsWithin (2 ^ 62) u → IsPlan p
    → (k : ℕ) → k ≤ p.events → IsWithin p states (behind (network u p.stop) k (opening_of p states))
opens-along u p states fit sets plan k room =
    within-along u p states fit sets plan k (opening_of p states) (omega (arith, room)) (opens-planned p states) (within-opens p states plan)
