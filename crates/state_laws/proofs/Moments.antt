-- By which moment all that a network has before it happens, in every state of a run.
use Rattle.std.proofs.Common.{◌≡◌, ◌≤◌, ◌<◌, ℕ, ◌+◌, ◌*◌, ◌^◌, ◌==◌, Bool, true, false, if◌then◌else◌, List, map, Option, Some, None}
use Rattle.std.proofs.Common.{IfSome, All, arith, sym, subst}
use Rattle.run_specs.specs.Run.{behind}
use Rattle.bus_specs.specs.Bus.{Bus, Running, LostNotice, FormatNotice, new_bus}
use Rattle.bus_specs.specs.Start.{start}
use Rattle.bus_specs.specs.Finish.{finish, recover, return_moment}
use Rattle.bus_specs.specs.Sound.{Sound}
use Rattle.bus_sound.proofs.Lists.{All-each, each-All, map-among}
use Rattle.world_specs.specs.Units.{Units}
use Rattle.world_specs.specs.World.{World, Node, Standing}
use Rattle.world_specs.specs.Next.{What, Finish, Return, Sessions, Start, Event, next_event}
use Rattle.world_specs.specs.Sessions.{turns, node_after}
use Rattle.world_specs.specs.Step.{outcome_of, world_behind}
use Rattle.world_specs.specs.Network.{network}
use Rattle.world_specs.specs.Plan.{Plan, IsPlan, new_nodes, opening_of}
use Rattle.world_specs.specs.Fits.{UnitsFit, Fits}
use Rattle.world_laws.proofs.Lists.{all-map, all-more}
use Rattle.world_laws.proofs.OneBus.{bus_behind, each-bus, turns-kept}
use Rattle.world_laws.proofs.Order.{next-within}
use Rattle.world_laws.proofs.Opens.{plan-opens}
use Rattle.world_laws.proofs.Changed.{along}
use Rattle.world_laws.proofs.Fitting.{fits-step}
use Rattle.state_laws.specs.Words.{NoticesBy, IsDueBy, ClocksBy, AllBy, HeldBelow, Bounded, SetsWithin}
use Rattle.state_laws.proofs.Bounds.{start-keeps, finish-keeps, recover-keeps, sessions-keep}
use Rattle.state_laws.proofs.Numbers.{Numbered, numbered-behind}
use Rattle.state_laws.proofs.Clocks.{node-by}
use Rattle.state_laws.proofs.Opening.{fresh, opens-bounded}

module _ {S : Type 0} (u : Units S) (limit bit ids : ℕ) (low : 2 ^ 29 ≤ ids) (w : World S) where
  bus-keeps : (t : ℕ) → t + 2000 * bit ≤ limit → (k : What) (b : Bus) → Sound b → Bounded limit bit ids b
      → Bounded limit bit ids (bus_behind u w t k b)
  bus-keeps t l (Finish bus) b s h = go (b.setup.number == bus)
    where
      go : (q : Bool) → Bounded limit bit ids (if q then (finish b t).0 else b)
      go true = finish-keeps limit bit ids t l low b s h
      go false = h
  bus-keeps t l (Return bus node) b s h = go (b.setup.number == bus)
    where
      go : (q : Bool) → Bounded limit bit ids (if q then (recover b t node).0 else b)
      go true = recover-keeps limit bit ids t b node h
      go false = h
  bus-keeps t l Sessions b s h =
      turns-kept t (Bounded limit bit ids) (sessions-keep limit bit ids t l) (turns u w.buses t w.nodes) b h
  bus-keeps t l (Start bus) b s h = go (b.setup.number == bus)
    where
      go : (q : Bool) → Bounded limit bit ids (if q then (start b t).0 else b)
      go true = start-keeps limit bit ids t l low b s h
      go false = h

  pub buses-keep : (e : Event) → e.moment + 2000 * bit ≤ limit → Fits w → All (Bounded limit bit ids) w.buses
      → All (Bounded limit bit ids) (world_behind u w e).buses
  buses-keep e l f h = each-bus u w e.moment e.what (Bounded limit bit ids) (Bounded limit bit ids)
      (λ b a i. bus-keeps e.moment l e.what b (each-All Sound w.buses b f.sound a) i) h

-- a clock is due by this moment
pub clocks-keep : {S : Type 0} (u : Units S) (limit span : ℕ) (w : World S) (e : Event) → SetsWithin span u → e.moment + span ≤ limit
    → All (λ n. ClocksBy limit n.standing) w.nodes → All (λ n. ClocksBy limit n.standing) (world_behind u w e).nodes
clocks-keep {S} u limit span w e sets near h = go e.what
  where
    go : (k : What) → All (λ (n : Node S). ClocksBy limit n.standing) (outcome_of u w e.moment k).nodes
    go (Finish bus) = h
    go (Return bus node) = h
    go Sessions =
        all-map (λ (n : Node S). ClocksBy limit n.standing) (λ (n : Node S). ClocksBy limit n.standing)
        (node_after u w.buses e.moment) w.nodes
        (λ n a i. node-by limit e.moment span near u sets w.buses n i) h
    go (Start bus) = h

if-some : {A : Type 0} (P Q : A → Type 0) (o : Option A) → ((x : A) → P x → Q x) → IfSome o P → IfSome o Q
if-some P Q None k h = tt
if-some P Q (Some x) k h = k x h

-- what happens by one moment happens by a later one
pub later : (soon limit : ℕ) → soon ≤ limit → (b : Bus) → IsDueBy soon b → IsDueBy limit b
later soon limit l b h = record {
  idle = let i = h.idle in omega (arith, l, i);
  end = if-some (λ (r : Running). r.end ≤ soon) (λ (r : Running). r.end ≤ limit) b.running (λ r k. omega (arith, l, k)) h.end;
  notices = all-more (NoticesBy soon) (NoticesBy limit) b.members (λ m a k. record {
    lost = if-some (λ (n : LostNotice). n.due ≤ soon) (λ (n : LostNotice). n.due ≤ limit) m.lost (λ n q. omega (arith, l, q)) k.lost;
    format = if-some (λ (n : FormatNotice). n.due ≤ soon) (λ (n : FormatNotice). n.due ≤ limit) m.format
        (λ n q. omega (arith, l, q)) k.format;
    wake = if-some (λ (n : ℕ). n ≤ soon) (λ (n : ℕ). n ≤ limit) m.wake (λ n q. omega (arith, l, q)) k.wake;
  }) h.notices;
  returns = λ none. all-more (λ m. IfSome m.occurrences (λ n. return_moment b n ≤ soon)) (λ m. IfSome m.occurrences (λ n. return_moment b n ≤ limit))
      b.members (λ m a k. if-some (λ (n : ℕ). return_moment b n ≤ soon) (λ (n : ℕ). return_moment b n ≤ limit) m.occurrences
      (λ n q. omega (arith, l, q)) k) (h.returns none);
}

module _ {S : Type 0} (u : Units S) (fit : UnitsFit u) (p : Plan) (plan : IsPlan p) (states : List S) where
  -- a moment little behind the stop
  abbrev pub limit : ℕ
  limit = p.stop + 2000 * 10 ^ 12

  record Held (w : World S) : Type 0 where
    fits : Fits w
    buses : All (Bounded limit (10 ^ 12) (2 ^ 29)) w.buses
    numbers : All (Numbered (λ n given. n < given) (λ n given more l h. omega (arith, l, h))) w.buses

  abbrev Given : Bus → Type 0
  Given = Numbered (λ n given. n < given) (λ n given more l h. omega (arith, l, h))

  keeps : (w : World S) (e : Event) → next_event p.stop w ≡ Some e → Held w → Held (world_behind u w e)
  keeps w e next h = let l = next-within p.stop w e next in record {
    fits = fits-step u p.stop w e fit h.fits next;
    buses = buses-keep u limit (10 ^ 12) (2 ^ 29) (omega arith) w e (omega (arith, l)) h.fits h.buses;
    numbers = each-bus u w e.moment e.what Given Given (λ b a i.
        numbered-behind (λ n given. n < given) (λ n given more l h. omega (arith, l, h)) u w e.moment e.what b
        (each-All Sound w.buses b h.fits.sound a) (λ n l. l) i) h.numbers;
  }

  opened : Held (opening_of p states)
  opened = record {
    fits = plan-opens p plan states;
    buses = opens-bounded p states limit (2 ^ 29) plan;
    numbers = All-each Given (map (λ b. new_bus b.setup b.members) p.buses)
        (λ b a. let r = map-among (λ b. new_bus b.setup b.members) p.buses b a in subst Given r.2 tt);
  }

  along-held : (k : ℕ) → Held (behind (network u p.stop) k (opening_of p states))
  along-held k = along u p.stop Held keeps k (opening_of p states) opened

  pub bounded-along : (k : ℕ) → All (Bounded limit (10 ^ 12) (2 ^ 29)) (behind (network u p.stop) k (opening_of p states)).buses
  bounded-along k = (along-held k).buses

  pub all-below : (k : ℕ) → All (HeldBelow (2 ^ 29)) (behind (network u p.stop) k (opening_of p states)).buses
  all-below k =
      let w = behind (network u p.stop) k (opening_of p states) in
      All-each (HeldBelow (2 ^ 29)) w.buses (λ b a. record {
        members = (each-All (Bounded limit (10 ^ 12) (2 ^ 29)) w.buses b (bounded-along k) a).identifiers;
        running = each-All Given w.buses b (along-held k).numbers a;
      })

module _ {S : Type 0} (u : Units S) (sets : SetsWithin (2 ^ 62) u) (p : Plan) (plan : IsPlan p) (states : List S) where
  clocks-along : (k : ℕ) → All (λ n. ClocksBy (2 ^ 63) n.standing) (behind (network u p.stop) k (opening_of p states)).nodes
  clocks-along k = along u p.stop (λ w. All (λ n. ClocksBy (2 ^ 63) n.standing) w.nodes)
      (λ w e next h. let l = next-within p.stop w e next in let m = plan.stop in
      clocks-keep u (2 ^ 63) (2 ^ 62) w e sets (omega (arith, l, m)) h)
      k (opening_of p states)
      (All-each (λ (n : Node S). ClocksBy (2 ^ 63) n.standing) (new_nodes 0 p.nodes states)
      (λ n a. let f = fresh 0 p.nodes states n a in subst (λ (s : Standing S). ClocksBy (2 ^ 63) s) (sym f.standing) tt))

  pub all-by : UnitsFit u → (k : ℕ) → AllBy (2 ^ 63) (behind (network u p.stop) k (opening_of p states))
  all-by fit k = let m = plan.stop in record {
    buses = all-more (Bounded (p.stop + 2000 * 10 ^ 12) (10 ^ 12) (2 ^ 29)) (IsDueBy (2 ^ 63)) (behind (network u p.stop) k (opening_of p states)).buses
        (λ b a i. later (p.stop + 2000 * 10 ^ 12) (2 ^ 63) (omega (arith, m)) b i.due) (bounded-along u fit p plan states k);
    clocks = clocks-along k;
  }
