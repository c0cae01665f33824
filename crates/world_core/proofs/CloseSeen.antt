-- The close of a network: what it keeps, and what is seen behind it.
use Rattle.std.proofs.Common.{◌≡◌, ◌*◌, Bool, false, List, fold, length, map, sym, ap, ◌∙◌, subst}
use Rattle.std.proofs.lemmas.List.{length-map}
use Rattle.fmi_states.specs.declared.ecu.Ecu.{Ghosts}
use Rattle.bus_specs.specs.Bus.{Bus}
use Rattle.world_specs.specs.Network.{node_closed}
use Rattle.world_specs.specs.Plan.{Plan, opening_of, units_of}
use Rattle.world_specs.specs.Units.{Units}
use Rattle.world_specs.specs.World.{World}
use Rattle.state_laws.specs.Within.{IsWithin}
use Rattle.world_core.specs.Closing.{left_from}
use Rattle.world_core.specs.Courses.{Course, network_of, nodes_from}
use Rattle.world_core.specs.Held.{IsHeld}
use Rattle.world_core.specs.Kept.{AreUnset, IsKept}
use Rattle.world_core.specs.Left.{network_closed, units_closed, with_left}
use Rattle.world_core.specs.Seen.{Seen}
use Rattle.world_core.specs.Units.{states_of}
use Rattle.world_core.specs.Walked.{Stays}
use Rattle.world_core.proofs.Acting.{seen}
use Rattle.world_core.proofs.CloseFits.{left-nodes}
use Rattle.world_core.proofs.CloseWithin.{closed-short, closed-within, opening-closed, units-stay}

module _ {E G S : Type 0} (g : Ghosts E G S) (c : Course) (es : List E) (shared : G) (kept : IsKept g c es shared) (left after : Course) (es' : List E) (shared' : G)
    (leaves : left ≡ record c { buses = left_from 0 c.standings c.buses }) (stays : Stays left after)
    (nodes : (network_of after (states_of g es' shared')).nodes ≡ map (node_closed (units_of g.answer g.phase_of left.plan)) (network_of left (states_of g es shared)).nodes) where
  buses-left : left_from 0 c.standings c.buses ≡ fold with_left c.buses (network_of c (states_of g es shared)).nodes
  buses-left = left-nodes 0 c.plan.nodes c.standings (states_of g es shared) c.clocks c.buses kept.arranged.standings (length-map es (λ x. g.state x shared) ∙ kept.each)

  course-is : after ≡ record c { buses = fold with_left c.buses (network_of c (states_of g es shared)).nodes; standings = after.standings; clocks = after.clocks }
  course-is =
      stays
      ∙ ap (λ (x : Course). record x { standings = after.standings; clocks = after.clocks }) leaves
      ∙ ap (λ bs. record c { buses = bs; standings = after.standings; clocks = after.clocks }) buses-left

  nodes-are : nodes_from 0 c.plan.nodes after.standings (states_of g es' shared') after.clocks
      ≡ map (node_closed (units_of g.answer g.phase_of c.plan)) (network_of c (states_of g es shared)).nodes
  nodes-are =
      sym (ap (λ (x : Course). nodes_from 0 x.plan.nodes after.standings (states_of g es' shared') after.clocks) course-is)
      ∙ nodes
      ∙ ap (λ (x : Course). map (node_closed (units_of g.answer g.phase_of x.plan)) (network_of x (states_of g es shared)).nodes) leaves

  network-behind : network_of (record c { buses = fold with_left c.buses (network_of c (states_of g es shared)).nodes; standings = after.standings; clocks = after.clocks }) (states_of g es' shared')
      ≡ network_closed (units_of g.answer g.phase_of c.plan) (network_of c (states_of g es shared))
  network-behind = ap (λ ns. record { events = c.events; now = c.now; buses = fold with_left c.buses (network_of c (states_of g es shared)).nodes; nodes = ns }) nodes-are

  network-is : network_of after (states_of g es' shared') ≡ network_closed (units_of g.answer g.phase_of c.plan) (network_of c (states_of g es shared))
  network-is = ap (λ (x : Course). network_of x (states_of g es' shared')) course-is ∙ network-behind

  plan-is : after.plan ≡ c.plan
  plan-is = ap (λ (x : Course). x.plan) course-is

  abbrev AreClosed : Type 0
  AreClosed = states_of g es' shared' ≡ units_closed (units_of g.answer g.phase_of left.plan) (network_of left (states_of g es shared)).nodes (states_of g es shared)

  -- where all nodes are new nothing is closed
  opened : AreClosed → network_of c (states_of g es shared) ≡ opening_of c.plan (states_of g es shared)
      → network_closed (units_of g.answer g.phase_of c.plan) (network_of c (states_of g es shared)) ≡ opening_of c.plan (states_of g es' shared')
  opened units same =
      let us : Units S = units_of g.answer g.phase_of c.plan in
      let ss : List S = states_of g es shared in
      let stay : states_of g es' shared' ≡ ss =
      units
      ∙ ap (λ (x : Course). units_closed (units_of g.answer g.phase_of x.plan) (network_of x ss).nodes ss) leaves
      ∙ ap (λ (v : World S). units_closed us v.nodes ss) same
      ∙ units-stay us 0 c.plan.nodes ss (length-map es (λ x. g.state x shared) ∙ kept.each) in
      ap (network_closed us) same ∙ opening-closed us c.plan ss ∙ ap (opening_of c.plan) (sym stay)

  pub kept-closed : AreClosed → IsHeld g after es' shared' → IsKept g after es' shared'
  kept-closed units h =
      let arranged = h.arranged in
      subst (λ (x : Course). IsKept g x es' shared') (sym course-is) (record {
        plan = kept.plan;
        arranged = record {
          standings = arranged.standings ∙ ap (λ (p : Plan). length p.nodes) plan-is;
          clocks = arranged.clocks ∙ ap (λ (p : Plan). length p.nodes * 8) plan-is;
          unset = subst (λ (p : Plan). AreUnset p.nodes after.standings after.clocks) plan-is arranged.unset;
        };
        within = subst (IsWithin c.plan (states_of g es' shared')) (sym network-behind)
            (closed-within (units_of g.answer g.phase_of c.plan) (network_of c (states_of g es shared)) kept.within.fits c.plan
            (states_of g es shared) (states_of g es' shared') kept.short kept.within (opened units));
        short = closed-short (units_of g.answer g.phase_of c.plan) (network_of c (states_of g es shared)) kept.within.fits kept.short;
        each = h.each ∙ ap (λ (p : Plan). length p.nodes) plan-is;
        phases = h.phases;
        apart = h.apart;
      })

  -- what is seen
  pub closed-seen : (failed : Bool) (x : Seen S G) → seen c (states_of g es shared) (map g.parts es) shared failed ≡ x → x.failed ≡ false
      → map g.parts es' ≡ map g.parts es
      → states_of g es' shared' ≡ units_closed (units_of g.answer g.phase_of left.plan) (network_of left (states_of g es shared)).nodes (states_of g es shared)
      → seen after (states_of g es' shared') (map g.parts es') shared' false ≡ record x {
        network = network_closed (units_of g.answer g.phase_of x.plan) x.network;
        units = units_closed (units_of g.answer g.phase_of x.plan) x.network.nodes x.units;
        shared = shared';
      }
  closed-seen failed x is ok parts states =
      let w : World S = network_of c (states_of g es shared) in
      let here : failed ≡ false = ap (λ (y : Seen S G). y.failed) is ∙ ok in
      let units = states ∙ ap (λ (y : Course). units_closed (units_of g.answer g.phase_of y.plan) (network_of y (states_of g es shared)).nodes (states_of g es shared)) leaves in
      subst (λ (y : Seen S G). seen after (states_of g es' shared') (map g.parts es') shared' false ≡ record y {
        network = network_closed (units_of g.answer g.phase_of y.plan) y.network;
        units = units_closed (units_of g.answer g.phase_of y.plan) y.network.nodes y.units;
        shared = shared';
      }) is
      (ap (λ p. record { plan = p; network = network_of after (states_of g es' shared'); units = states_of g es' shared'; parts = map g.parts es'; shared = shared'; failed = false }) plan-is
      ∙ ap (λ n. record { plan = c.plan; network = n; units = states_of g es' shared'; parts = map g.parts es'; shared = shared'; failed = false }) network-is
      ∙ ap (λ us. record { plan = c.plan; network = network_closed (units_of g.answer g.phase_of c.plan) w; units = us; parts = map g.parts es'; shared = shared'; failed = false }) units
      ∙ ap (λ ps. record {
        plan = c.plan;
        network = network_closed (units_of g.answer g.phase_of c.plan) w;
        units = units_closed (units_of g.answer g.phase_of c.plan) w.nodes (states_of g es shared);
        parts = ps;
        shared = shared';
        failed = false;
      }) parts
      ∙ ap (λ q. record {
        plan = c.plan;
        network = network_closed (units_of g.answer g.phase_of c.plan) w;
        units = units_closed (units_of g.answer g.phase_of c.plan) w.nodes (states_of g es shared);
        parts = map g.parts es;
        shared = shared';
        failed = q;
      }) (sym here))
