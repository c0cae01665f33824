-- The sessions of a moment: what they need of the network, and what it keeps behind them.
use Rattle.std.proofs.Common.{◌≡◌, ◌≤◌, ◌<◌, ◌+◌, ◌*◌, ℕ, Bool, false, List, [], ◌∷◌, All, Option, Some, drop, take, length, map, arith, sym, ap, ◌∙◌, subst}
use Rattle.std.proofs.lemmas.List.{length-map}
use Rattle.std.proofs.lemmas.List.Elements.{All-cons, All-head, All-nil, All-tail}
use Rattle.fmi_states.specs.declared.ecu.Ecu.{Ghosts}
use Rattle.log_specs.specs.Line.{Line}
use Rattle.bus_specs.specs.Bus.{Bus}
use Rattle.world_specs.specs.Fits.{LastBy, UnitsFit}
use Rattle.world_specs.specs.Next.{Event, Sessions, at, next_event}
use Rattle.world_specs.specs.Plan.{NodePlan, Plan, units_of}
use Rattle.world_specs.specs.Sessions.{node_after, turns, turns_step}
use Rattle.world_specs.specs.Step.{event_lines, world_behind}
use Rattle.world_specs.specs.Units.{Units}
use Rattle.world_specs.specs.World.{Node, World}
use Rattle.world_laws.specs.Words.{AnswersBytes}
use Rattle.world_laws.proofs.Fitting.{fits-from}
use Rattle.world_laws.proofs.Planned.{units-fit}
use Rattle.world_laws.proofs.Timed.{forward, to-enabled}
use Rattle.state_laws.specs.Words.{IsShort}
use Rattle.state_laws.specs.Within.{IsWithin}
use Rattle.state_laws.proofs.Clocks.{units-near}
use Rattle.state_laws.proofs.Planned.{short-stays}
use Rattle.state_laws.proofs.Within.{within-step}
use Rattle.world_core.specs.Bare.{AreTurns, IsExpected}
use Rattle.world_core.specs.Courses.{Course, network_of, nodes_from, standing_of}
use Rattle.world_core.specs.Held.{IsHeld, LastIsBy, LastsAreBy}
use Rattle.world_core.specs.Kept.{AreUnset, IsKept}
use Rattle.world_core.specs.Left.{units_after, units_behind}
use Rattle.world_core.specs.Seen.{Seen}
use Rattle.world_core.specs.SeenTurns.{seen}
use Rattle.world_core.specs.Units.{states_of}
use Rattle.world_core.specs.Walked.{Stays, bare_of}
use Rattle.world_core.specs.declared.standing.Standing.{Standing}
use Rattle.world_core.specs.declared.standing.Standing.TheVariants.{New, Live, Down, Over}
use Rattle.world_core.specs.declared.turns.Turn.{Turn}
use Rattle.world_core.proofs.Acting as acting
use Rattle.world_core.proofs.Bareness.{all-expected, turns-fit, turns-same}

-- ---- the nodes of a course

last-of : {S : Type 0} (now t : ℕ) → now ≤ t → (v : Standing) (s : S) (cs : List (Option ℕ)) → LastBy now (standing_of v s cs) → LastIsBy t v
last-of now t l New s cs h = tt
last-of now t l (Live last) s cs h = omega (arith, l, h)
last-of now t l Down s cs h = tt
last-of now t l Over s cs h = tt

lasts-of : {S : Type 0} (now t p : ℕ) → now ≤ t → (ns : List NodePlan) (ts : List Standing) (ss : List S) (cs : List (Option ℕ)) → length ts ≡ length ns → length ss ≡ length ns
    → All (λ (n : Node S). LastBy now n.standing) (nodes_from p ns ts ss cs) → LastsAreBy t ts
lasts-of now t p l [] [] ss cs a b h = All-nil (LastIsBy t)
lasts-of now t p l [] (v ∷ ts) ss cs a b h = absurd (omega (arith, a))
lasts-of now t p l (n ∷ ns) [] ss cs a b h = All-nil (LastIsBy t)
lasts-of now t p l (n ∷ ns) (v ∷ ts) [] cs a b h = absurd (omega (arith, b))
lasts-of {S} now t p l (n ∷ ns) (v ∷ ts) (s ∷ ss) cs a b h =
    let x : Node S = record { number = p; buses = n.buses; standing = standing_of v s (take (length n.description.countdown) cs) } in
    let rest : List (Node S) = nodes_from (p + 1) ns ts ss (drop 8 cs) in
    All-cons (LastIsBy t) v ts (last-of now t l v s (take (length n.description.countdown) cs) (All-head (λ (n : Node S). LastBy now n.standing) x rest h))
    (lasts-of now t (p + 1) l ns ts ss (drop 8 cs) (omega (arith, a)) (omega (arith, b)) (All-tail (λ (n : Node S). LastBy now n.standing) x rest h))

pub few-nodes : {S : Type 0} (p : ℕ) (ns : List NodePlan) (ts : List Standing) (ss : List S) (cs : List (Option ℕ)) → length (nodes_from p ns ts ss cs) ≤ length ns
few-nodes p [] ts ss cs = omega arith
few-nodes p (n ∷ ns) [] ss cs = omega arith
few-nodes p (n ∷ ns) (t ∷ ts) [] cs = omega arith
few-nodes p (n ∷ ns) (t ∷ ts) (s ∷ ss) cs = let l = few-nodes (p + 1) ns ts ss (drop 8 cs) in omega (arith, l)

-- ---- what the sessions need

module _ {E G S : Type 0} (g : Ghosts E G S) (c : Course) (es : List E) (shared : G) (kept : IsKept g c es shared) where
  pub held : IsHeld g c es shared
  held = record { plan = kept.plan; arranged = kept.arranged; each = kept.each; phases = kept.phases; apart = kept.apart }

  module _ (e : Event) (next : next_event c.plan.stop (network_of c (states_of g es shared)) ≡ Some e) where
    pub not-before : c.now ≤ e.moment
    not-before = forward c.plan.stop (network_of c (states_of g es shared)) e
        (to-enabled (network_of c (states_of g es shared)) (fits-from (network_of c (states_of g es shared)) kept.within.fits)) next

    pub lasts-by : LastsAreBy e.moment c.standings
    lasts-by = lasts-of c.now e.moment 0 not-before c.plan.nodes c.standings (states_of g es shared) c.clocks kept.arranged.standings
        (length-map es (λ x. g.state x shared) ∙ kept.each) kept.within.fits.lasts

-- ---- the turns of the code are those of the definitions

module _ {E G S : Type 0} (g : Ghosts E G S) (replies : AnswersBytes g.answer) (c : Course) (es : List E) (shared : G) (kept : IsKept g c es shared) (t : ℕ) (xs : List Turn)
    (same : map (seen c.plan.nodes) xs ≡ map bare_of (turns (units_of g.answer g.phase_of c.plan) c.buses t (network_of c (states_of g es shared)).nodes)) where
  fit : UnitsFit (units_of g.answer g.phase_of c.plan)
  fit = units-fit g.answer replies g.phase_of c.plan

  turns-there : AreTurns (map (seen c.plan.nodes) xs)
  turns-there = subst AreTurns (sym same) (turns-fit (units_of g.answer g.phase_of c.plan) (network_of c (states_of g es shared)) kept.within.fits fit t)

  turns-expected : All (IsExpected (map (seen c.plan.nodes) xs)) c.buses
  turns-expected = subst (λ ys. All (IsExpected ys) c.buses) (sym same)
      (all-expected (units_of g.answer g.phase_of c.plan) (network_of c (states_of g es shared)) kept.within.fits fit t kept.within.counted
      (let l = few-nodes 0 c.plan.nodes c.standings (states_of g es shared) c.clocks in let m = kept.plan.some_nodes.1 in omega (arith, l, m))
      (let l = kept.within.events in let m = kept.plan.events.1 in omega (arith, l, m)))

  -- and so they are of the course behind the sessions
  module _ (after : Course) (stays : Stays c after) where
    pub are-turns : AreTurns (map (seen after.plan.nodes) xs)
    are-turns = subst (λ (x : Course). AreTurns (map (seen x.plan.nodes) xs)) (sym stays) turns-there

    pub are-expected : All (IsExpected (map (seen after.plan.nodes) xs)) after.buses
    are-expected = subst (λ (x : Course). All (IsExpected (map (seen x.plan.nodes) xs)) x.buses) (sym stays) turns-expected

-- ---- behind the sessions

behind-turns : (c after turned next : Course) (bs : List Bus) (t : ℕ) → Stays c after → turned ≡ record after { buses = bs } → next ≡ record turned { events = turned.events + 1; now = t }
    → next ≡ record c { buses = bs; standings = after.standings; clocks = after.clocks; events = c.events + 1; now = t }
behind-turns c after turned next bs t stays e f =
    f ∙ ap (λ (x : Course). record x { events = x.events + 1; now = t }) e
    ∙ ap (λ (x : Course). record x { buses = bs; events = x.events + 1; now = t }) stays

module _ {E G S : Type 0} (g : Ghosts E G S) (replies : AnswersBytes g.answer) (c : Course) (es : List E) (shared : G) (kept : IsKept g c es shared) (t : ℕ) (xs : List Turn)
    (same : map (seen c.plan.nodes) xs ≡ map bare_of (turns (units_of g.answer g.phase_of c.plan) c.buses t (network_of c (states_of g es shared)).nodes))
    (after turned next : Course) (es' : List E) (shared' : G) (stays : Stays c after)
    (nodes : (network_of after (states_of g es' shared')).nodes ≡ map (node_after (units_of g.answer g.phase_of c.plan) c.buses t) (network_of c (states_of g es shared)).nodes)
    (taken : turned ≡ record after { buses = (turns_step t after.buses (map (seen after.plan.nodes) xs)).0 }) (counts : next ≡ record turned { events = turned.events + 1; now = t }) where
  steps : turns_step t after.buses (map (seen after.plan.nodes) xs) ≡ turns_step t c.buses (turns (units_of g.answer g.phase_of c.plan) c.buses t (network_of c (states_of g es shared)).nodes)
  steps =
      ap (λ (x : Course). turns_step t x.buses (map (seen x.plan.nodes) xs)) stays
      ∙ ap (turns_step t c.buses) same
      ∙ turns-same t c.buses (turns (units_of g.answer g.phase_of c.plan) c.buses t (network_of c (states_of g es shared)).nodes)

  abbrev behind : Course
  behind = record c {
    buses = (turns_step t c.buses (turns (units_of g.answer g.phase_of c.plan) c.buses t (network_of c (states_of g es shared)).nodes)).0;
    standings = after.standings;
    clocks = after.clocks;
    events = c.events + 1;
    now = t;
  }

  pub course-is : next ≡ behind
  course-is =
      behind-turns c after turned next (turns_step t after.buses (map (seen after.plan.nodes) xs)).0 t stays taken counts
      ∙ ap (λ (p : List Bus × List Line). record c { buses = p.0; standings = after.standings; clocks = after.clocks; events = c.events + 1; now = t }) steps

  nodes-are : nodes_from 0 c.plan.nodes after.standings (states_of g es' shared') after.clocks
      ≡ map (node_after (units_of g.answer g.phase_of c.plan) c.buses t) (network_of c (states_of g es shared)).nodes
  nodes-are = sym (ap (λ (x : Course). nodes_from 0 x.plan.nodes after.standings (states_of g es' shared') after.clocks) stays) ∙ nodes

  network-behind : network_of behind (states_of g es' shared') ≡ world_behind (units_of g.answer g.phase_of c.plan) (network_of c (states_of g es shared)) (at Sessions t)
  network-behind = ap (λ ns. record {
    events = c.events + 1;
    now = t;
    buses = (turns_step t c.buses (turns (units_of g.answer g.phase_of c.plan) c.buses t (network_of c (states_of g es shared)).nodes)).0;
    nodes = ns;
  }) nodes-are

  pub kept-behind : next_event c.plan.stop (network_of c (states_of g es shared)) ≡ Some (at Sessions t) → c.events < c.plan.events → IsHeld g after es' shared' → IsKept g next es' shared'
  kept-behind n l h =
      let same-plan : after.plan ≡ c.plan = ap (λ (x : Course). x.plan) stays in
      let arranged = h.arranged in
      subst (λ (x : Course). IsKept g x es' shared') (sym course-is) (record {
        plan = kept.plan;
        arranged = record {
          standings = arranged.standings ∙ ap (λ (p : Plan). length p.nodes) same-plan;
          clocks = arranged.clocks ∙ ap (λ (p : Plan). length p.nodes * 8) same-plan;
          unset = subst (λ (p : Plan). AreUnset p.nodes after.standings after.clocks) same-plan arranged.unset;
        };
        within = subst (IsWithin c.plan (states_of g es' shared')) (sym network-behind)
            (within-step (units_of g.answer g.phase_of c.plan) c.plan (states_of g es shared) (network_of c (states_of g es shared))
            (at Sessions t) (states_of g es' shared') (units-fit g.answer replies g.phase_of c.plan) (units-near g.answer g.phase_of c.plan)
            kept.plan kept.short
            (let few = few-nodes 0 c.plan.nodes c.standings (states_of g es shared) c.clocks in
            let most = kept.plan.some_nodes.1 in omega (arith, few, most)) l n kept.within);
        short = subst (λ (v : World S). All IsShort v.buses) (sym network-behind)
            (short-stays (units_of g.answer g.phase_of c.plan) (network_of c (states_of g es shared)) (at Sessions t) kept.short);
        each = h.each ∙ ap (λ (p : Plan). length p.nodes) same-plan;
        phases = h.phases;
        apart = h.apart;
      })

  -- what is seen behind them
  pub sessions-seen : (failed : Bool) (x : Seen S G) → acting.seen c (states_of g es shared) (map g.parts es) shared failed ≡ x → x.failed ≡ false
      → states_of g es' shared' ≡ units_after (units_of g.answer g.phase_of c.plan) c.buses t (network_of c (states_of g es shared)).nodes (states_of g es shared)
      → map g.parts es' ≡ map g.parts es
      → acting.seen next (states_of g es' shared') (map g.parts es') shared' false ≡ record x {
        network = world_behind (units_of g.answer g.phase_of x.plan) x.network (at Sessions t);
        units = units_behind (units_of g.answer g.phase_of x.plan) x.network (at Sessions t) x.units;
        shared = shared';
      }
  sessions-seen failed x is ok units parts =
      let w : World S = network_of c (states_of g es shared) in
      let us : Units S = units_of g.answer g.phase_of c.plan in
      let here : failed ≡ false = ap (λ (y : Seen S G). y.failed) is ∙ ok in
      let plan-is : next.plan ≡ c.plan = ap (λ (y : Course). y.plan) course-is in
      let network-is : network_of next (states_of g es' shared') ≡ world_behind us w (at Sessions t) =
      ap (λ (y : Course). network_of y (states_of g es' shared')) course-is ∙ network-behind in
      subst (λ (y : Seen S G). acting.seen next (states_of g es' shared') (map g.parts es') shared' false ≡ record y {
        network = world_behind (units_of g.answer g.phase_of y.plan) y.network (at Sessions t);
        units = units_behind (units_of g.answer g.phase_of y.plan) y.network (at Sessions t) y.units;
        shared = shared';
      }) is
      (ap (λ p. record {
        plan = p;
        network = network_of next (states_of g es' shared');
        units = states_of g es' shared';
        parts = map g.parts es';
        shared = shared';
        failed = false;
      }) plan-is
      ∙ ap (λ n. record { plan = c.plan; network = n; units = states_of g es' shared'; parts = map g.parts es'; shared = shared'; failed = false }) network-is
      ∙ ap (λ ss. record { plan = c.plan; network = world_behind us w (at Sessions t); units = ss; parts = map g.parts es'; shared = shared'; failed = false }) units
      ∙ ap (λ ps. record {
        plan = c.plan;
        network = world_behind us w (at Sessions t);
        units = units_behind us w (at Sessions t) (states_of g es shared);
        parts = ps;
        shared = shared';
        failed = false;
      }) parts
      ∙ ap (λ q. record {
        plan = c.plan;
        network = world_behind us w (at Sessions t);
        units = units_behind us w (at Sessions t) (states_of g es shared);
        parts = map g.parts es;
        shared = shared';
        failed = q;
      }) (sym here))
