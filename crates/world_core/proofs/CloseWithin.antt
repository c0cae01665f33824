-- A network stays within its bounds behind its close.
use Rattle.std.proofs.Common.{◌≡◌, ◌≤◌, ◌<◌, ◌+◌, ◌^◌, ℕ, Bool, true, false, List, [], ◌∷◌, All, IfSome, fold, length, map, arith, refl, ap}
use Rattle.std.proofs.lemmas.Bool.{both_ways}
use Rattle.session_specs.specs.Outcome.{End}
use Rattle.session_specs.specs.Outcome as session
use Rattle.bus_specs.specs.Bus.{Bus, new_bus}
use Rattle.bus_specs.specs.Inbox.{leave}
use Rattle.bus_sound.proofs.Lists.{All-each, each-All}
use Rattle.world_specs.specs.Fits.{Fits, is_live}
use Rattle.world_specs.specs.Network.{close_from, node_closed, standing_by, standing_closed}
use Rattle.world_specs.specs.Plan.{NodePlan, Plan, new_nodes, opening_of}
use Rattle.world_specs.specs.Sessions.{is_new}
use Rattle.world_specs.specs.Units.{Units}
use Rattle.world_specs.specs.World.{Node, Standing, New, Live, Down, Over, World}
use Rattle.world_laws.specs.Words.{IsCounted}
use Rattle.world_laws.proofs.Lists.{all-map, all-more}
use Rattle.state_laws.specs.Words.{Bounded, ClocksBy, HasBegun, IsDueBy, IsShort}
use Rattle.state_laws.specs.Within.{latest, counted_nodes, IsInRange, IsWithin}
use Rattle.state_laws.proofs.Bounds.{leave-bounded}
use Rattle.world_core.specs.Left.{network_closed, units_closed, with_left}
use Rattle.world_core.proofs.CloseFits.{all-out, closed-fits, each-left, left-kept}

module _ {S : Type 0} (u : Units S) (w : World S) (h : Fits w) where
  -- the close keeps what leaving a bus keeps
  left-all : (P : Bus → Type 0) → ((b : Bus) (node : ℕ) → P b → P (leave b node)) → All P w.buses → All P (fold with_left w.buses w.nodes)
  left-all P k a = each-left u w h P P (λ b i p. left-kept P k w.nodes b p) a

  pub closed-short : All IsShort w.buses → All IsShort (network_closed u w).buses
  closed-short a = left-all IsShort (λ b node k. record { nominal = k.nominal; fast = k.fast }) a

  out-by-limit : (t : ℕ) (v : Standing S) → is_live v ≡ false → ClocksBy t v
  out-by-limit t (New s) h = tt
  out-by-limit t (Live s last clocks) h = absurd (both_ways true h refl)
  out-by-limit t Down h = tt
  out-by-limit t Over h = tt

  closed-old : (v : Standing S) (node : ℕ) → is_new v ≡ false → is_new (standing_closed v (close_from u node v)) ≡ false
  closed-old (New s) node h = absurd (both_ways true h refl)
  closed-old (Live s last clocks) node h = go (u.close node s).0
    where
      go : (e : End) → is_new {S = S} (standing_by e) ≡ false
      go session.Live = refl
      go session.Over = refl
      go (session.Down why) = refl
  closed-old Down node h = refl
  closed-old Over node h = refl

  closed-begun : HasBegun w → HasBegun (network_closed u w)
  closed-begun h = all-map (λ (n : Node S). is_new n.standing ≡ false) (λ (n : Node S). is_new n.standing ≡ false) (node_closed u) w.nodes
      (λ n a i. closed-old n.standing n.number i) h

  leave-bounds : (b : Bus) (node : ℕ) → Bounded latest (10 ^ 12) (2 ^ 32) b → Bounded latest (10 ^ 12) (2 ^ 32) (leave b node)
  leave-bounds b node k = leave-bounded latest (10 ^ 12) (2 ^ 32) b node k

  module _ (p : Plan) (states after : List S) (short : All IsShort w.buses) (k : IsWithin p states w)
      (opened : w ≡ opening_of p states → network_closed u w ≡ opening_of p after) where
    bounds : All (Bounded latest (10 ^ 12) (2 ^ 32)) (network_closed u w).buses
    bounds = left-all (Bounded latest (10 ^ 12) (2 ^ 32)) leave-bounds (All-each (Bounded latest (10 ^ 12) (2 ^ 32)) w.buses (λ b a.
        let s = each-All IsShort w.buses b short a in record {
          nominal = s.nominal;
          fast = s.fast;
          due = each-All (IsDueBy latest) w.buses b k.due a;
          identifiers = (each-All IsInRange w.buses b k.ranges a).identifiers;
        }))

    pub closed-within : IsWithin p after (network_closed u w)
    closed-within = record {
      fits = closed-fits u w h;
      events = k.events;
      now = k.now;
      new = record { opens = λ z. opened (k.new.opens z); begun = λ n. closed-begun (k.new.begun n) };
      counted = left-all (IsCounted counted_nodes w.events) (λ b node c. record { attempts = c.attempts; numbers = c.numbers }) k.counted;
      due = all-more (Bounded latest (10 ^ 12) (2 ^ 32)) (IsDueBy latest) (network_closed u w).buses (λ b a i. i.due) bounds;
      clocks = all-out u (ClocksBy latest) (out-by-limit latest) w.nodes;
      ranges = All-each IsInRange (network_closed u w).buses (λ b a. record {
        identifiers = (each-All (Bounded latest (10 ^ 12) (2 ^ 32)) (network_closed u w).buses b bounds a).identifiers;
        running = each-All (λ b. IfSome b.running (λ r. r.number < 2 ^ 64)) (network_closed u w).buses b
            (left-all (λ b. IfSome b.running (λ r. r.number < 2 ^ 64)) (λ b node r. r)
            (all-more IsInRange (λ b. IfSome b.running (λ r. r.number < 2 ^ 64)) w.buses (λ b a r. r.running) k.ranges)) a;
      });
    }

-- ---- nothing is closed where all nodes are new

module _ {S : Type 0} (u : Units S) where
  new-leave : (place : ℕ) (ns : List NodePlan) (ss : List S) (bs : List Bus) → fold with_left bs (new_nodes place ns ss) ≡ bs
  new-leave place [] ss bs = refl
  new-leave place (n ∷ ns) [] bs = refl
  new-leave place (n ∷ ns) (s ∷ ss) bs = new-leave (place + 1) ns ss bs

  new-closed : (place : ℕ) (ns : List NodePlan) (ss : List S) → map (node_closed u) (new_nodes place ns ss) ≡ new_nodes place ns ss
  new-closed place [] ss = refl
  new-closed place (n ∷ ns) [] = refl
  new-closed place (n ∷ ns) (s ∷ ss) = ap (λ ms. record { number = place; buses = n.buses; standing = New s } ∷ ms) (new-closed (place + 1) ns ss)

  pub opening-closed : (p : Plan) (states : List S) → network_closed u (opening_of p states) ≡ opening_of p states
  opening-closed p states = rw (new-leave 0 p.nodes states (map (λ b. new_bus b.setup b.members) p.buses), new-closed 0 p.nodes states) refl

  pub units-stay : (place : ℕ) (ns : List NodePlan) (ss : List S) → length ss ≡ length ns → units_closed u (new_nodes place ns ss) ss ≡ ss
  units-stay place [] [] e = refl
  units-stay place [] (s ∷ ss) e = absurd (omega (arith, e))
  units-stay place (n ∷ ns) [] e = refl
  units-stay place (n ∷ ns) (s ∷ ss) e = ap (λ ts. s ∷ ts) (units-stay (place + 1) ns ss (omega (arith, e)))
