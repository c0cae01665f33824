-- The network of a plan as the code opens it.
use Rattle.std.proofs.Common.{◌≡◌, ℕ, false, zero, suc, ◌+◌, ◌*◌, List, [], ◌∷◌, drop, length, map, replicate, take, All, Option, Some, None, is_some, arith, sym, refl, ap, ◌∙◌, subst, inl, inr}
use Rattle.std.proofs.lemmas.List.{drop-replicate, take-replicate, length-replicate}
use Rattle.std.proofs.lemmas.List.Elements.{All-replicate}
use Rattle.bus_specs.specs.Bus.{Bus, new_bus, new_member}
use Rattle.bus_specs.specs.Sound.{Sound, Rise}
use Rattle.bus_sound.proofs.Among.{Among}
use Rattle.bus_sound.proofs.Lists.{All-each, each-All, among-map}
use Rattle.bus_medium.specs.declared.setup.BusSetup.{BusSetup}
use Rattle.bus_medium.specs.Setups.{setup_of, IsWellFormed}
use Rattle.fmi_states.specs.declared.ecu.Ecu.{Ghosts}
use Rattle.fmi_states.specs.declared.phase.Phase.TheVariants.{Fresh}
use Rattle.world_specs.specs.World.{World, Node}
use Rattle.world_specs.specs.World as model
use Rattle.world_specs.specs.Plan.{BusPlan, NodePlan, Plan, IsDataBitTime, IsBusPlan, AllFrom, IsPlan, new_nodes, opening_of}
use Rattle.world_specs.specs.Fits.{Fits}
use Rattle.world_laws.proofs.Lists.{map-map, map-same, map-id}
use Rattle.world_laws.proofs.Opens.{plan-opens}
use Rattle.state_laws.specs.Within.{IsWithin}
use Rattle.state_laws.proofs.Planned.{opens-planned}
use Rattle.state_laws.proofs.Within.{within-opens, planned-short}
use Rattle.world_core.specs.declared.standing.Standing.{Standing}
use Rattle.world_core.specs.declared.standing.Standing.TheVariants.{New}
use Rattle.world_core.specs.Setups.{bus_plan_of, bus_of}
use Rattle.world_core.specs.Courses.{Course, plan_of_bus, opening_course, nodes_from, network_of}
use Rattle.world_core.specs.Seen.{Seen, opened}
use Rattle.world_core.specs.Units.{AreApart, states_of}
use Rattle.world_core.specs.Kept.{IsInPhase, Pairwise, AreUnset, IsKept}

-- ---- buses

members-stay : (nodes : List ℕ) → map (λ m. m.node) (map new_member nodes) ≡ nodes
members-stay nodes = map-map (λ m. m.node) new_member nodes ∙ map-id nodes

pub plans-of-buses : (ss : List BusSetup) → map plan_of_bus (map bus_of ss) ≡ map bus_plan_of ss
plans-of-buses ss = map-map plan_of_bus bus_of ss ∙ map-same (λ s. plan_of_bus (bus_of s)) bus_plan_of ss (λ s a. rw (members-stay s.members) refl)

pub buses-of-plans : (ss : List BusSetup) → map (λ b. new_bus b.setup b.members) (map bus_plan_of ss) ≡ map bus_of ss
buses-of-plans ss = map-map (λ b. new_bus b.setup b.members) bus_plan_of ss

-- one of a list has a place
at-place : {X : Type 0} (i : ℕ) (P : ℕ → X → Type 0) (xs : List X) (x : X) → AllFrom i P xs → Among xs x → (k : ℕ) × P k x
at-place i P [] x h a = absurd a
at-place i P (y ∷ xs) x h (inl e) = (i, subst (P i) e h.0)
at-place i P (y ∷ xs) x h (inr a) = at-place (i + 1) P xs x h.1 a

rates-agree : (resolution : ℕ) (rate time : Option ℕ) → IsDataBitTime resolution rate time → is_some time ≡ is_some rate
rates-agree resolution None None h = refl
rates-agree resolution (Some rate) (Some ticks) h = refl
rates-agree resolution None (Some ticks) h = absurd h
rates-agree resolution (Some rate) None h = absurd h

pub well-formed : (p : Plan) (ss : List BusSetup) → IsPlan p → p.buses ≡ map bus_plan_of ss → All IsWellFormed ss
well-formed p ss ok e = All-each IsWellFormed ss each
  where
    each : (s : BusSetup) → Among ss s → IsWellFormed s
    each s a =
        let here : Among p.buses (bus_plan_of s) = subst (λ bs. Among bs (bus_plan_of s)) (sym e) (among-map bus_plan_of ss s a) in
        let plan = at-place 0 (IsBusPlan p) p.buses (bus_plan_of s) ok.buses here in
        let fits : Fits (opening_of {S = ℕ} p []) = plan-opens p ok [] in
        let sound : Sound (bus_of s) = each-All Sound (map (λ b. new_bus b.setup b.members) p.buses) (bus_of s) fits.sound
        (among-map (λ (b : BusPlan). new_bus b.setup b.members) p.buses (bus_plan_of s) here) in
        record {
          rise = ((sound.nodes).0, subst (λ ns. Rise 0 ns (sound.nodes).0) (members-stay s.members) (sound.nodes).1);
          errors = sound.setup;
          rates = rates-agree p.resolution (setup_of s).fd_rate (setup_of s).data_bit_time (plan.1).fd_rate;
        }

-- ---- clocks

abbrev unset : ℕ → List (Option ℕ)
unset n = replicate n None

eight-more : (n : ℕ) → suc n * 8 ≡ 8 + n * 8
eight-more n = omega arith

first-unset : (n : ℕ) → take 8 (unset (suc n * 8)) ≡ unset 8
first-unset n = take-replicate 8 (suc n * 8) None (omega (arith, eight-more n))

others-unset : (n : ℕ) → drop 8 (unset (suc n * 8)) ≡ unset (n * 8)
others-unset n = drop-replicate 8 (suc n * 8) None ∙ ap unset (omega (arith, eight-more n))

all-unset : (ns : List NodePlan) → AreUnset ns (replicate (length ns) New) (replicate (length ns * 8) None)
all-unset [] = tt
all-unset (n ∷ ns) = (
  subst (All (λ c. c ≡ None)) (sym (first-unset (length ns))) (All-replicate (λ c. c ≡ None) 8 None refl),
  subst (AreUnset ns (replicate (length ns) New)) (sym (others-unset (length ns))) (all-unset ns),
)

-- ---- nodes

all-new : {S : Type 0} (place : ℕ) (ns : List NodePlan) (ss : List S)
    → nodes_from place ns (replicate (length ns) New) ss (replicate (length ns * 8) None) ≡ new_nodes place ns ss
all-new place [] ss = refl
all-new place (n ∷ ns) [] = refl
all-new place (n ∷ ns) (s ∷ ss) =
    ap (λ nodes. record { number = place; buses = n.buses; standing = model.New s } ∷ nodes)
    (ap (nodes_from (place + 1) ns (replicate (length ns) New) ss) (others-unset (length ns)) ∙ all-new (place + 1) ns ss)

-- ---- the whole

pub course-opens : (resolution stop budget fuel : ℕ) (ss : List BusSetup) (ns : List NodePlan) (bs : List Bus) (ts : List Standing) (cs : List (Option ℕ))
    → bs ≡ map bus_of ss → ts ≡ replicate (length ns) New → cs ≡ replicate (length ns * 8) None
    → record {
      plan = record { resolution = resolution; stop = stop; events = budget; fuel = fuel; buses = map plan_of_bus bs; nodes = ns };
      buses = bs;
      standings = ts;
      clocks = cs;
      events = 0;
      now = 0;
    } ≡ opening_course (record { resolution = resolution; stop = stop; events = budget; fuel = fuel; buses = map bus_plan_of ss; nodes = ns })
course-opens resolution stop budget fuel ss ns bs ts cs e f h = rw (e, f, h, plans-of-buses ss, buses-of-plans ss) refl

pub opens : {S : Type 0} (p : Plan) (states : List S) → network_of (opening_course p) states ≡ opening_of p states
opens p states = ap (λ nodes. record { events = 0; now = 0; buses = map (λ b. new_bus b.setup b.members) p.buses; nodes = nodes }) (all-new 0 p.nodes states)

abbrev seen : {S G : Type 0} → List S → List (List ℕ) → G → Plan → World S → Seen S G
seen states parts shared plan network = record { plan = plan; network = network; units = states; parts = parts; shared = shared; failed = false }

pub world-opens : {S G : Type 0} (c : Course) (p : Plan) (states : List S) (parts : List (List ℕ)) (shared : G) → c ≡ opening_course p
    → record { plan = c.plan; network = network_of c states; units = states; parts = parts; shared = shared; failed = false } ≡ opened p states parts shared
world-opens c p states parts shared e =
    subst (λ x. seen states parts shared x.plan (network_of x states) ≡ opened p states parts shared) (sym e) (ap (seen states parts shared p) (opens p states))

module _ {E G S : Type 0} (g : Ghosts E G S) (shared : G) where
  fresh-pairs : (es : List E) (n : ℕ) → length es ≡ n → ((e : E) → Among es e → g.phase_of (g.state e shared) ≡ Fresh)
      → Pairwise (λ t e. IsInPhase t (g.phase_of (g.state e shared))) (replicate n New) es
  fresh-pairs [] zero l h = tt
  fresh-pairs [] (suc n) l h = absurd (omega (arith, l))
  fresh-pairs (e ∷ es) zero l h = absurd (omega (arith, l))
  fresh-pairs (e ∷ es) (suc n) l h = (h e (inl refl), fresh-pairs es n (omega (arith, l)) (λ d a. h d (inr a)))

  pub kept : (p : Plan) (es : List E) → IsPlan p → length es ≡ length p.nodes → All (λ e. g.phase_of (g.state e shared) ≡ Fresh) es
      → AreApart g es shared → IsKept g (opening_course p) es shared
  kept p es ok each fresh apart =
      let same : network_of (opening_course p) (states_of g es shared) ≡ opening_of p (states_of g es shared) = opens p (states_of g es shared) in
      record {
        plan = ok;
        arranged = record {
          standings = length-replicate (length p.nodes) New;
          clocks = length-replicate (length p.nodes * 8) None;
          unset = all-unset p.nodes;
        };
        within = subst (IsWithin p (states_of g es shared)) (sym same) (within-opens p (states_of g es shared) ok);
        short = planned-short p ok (states_of g es shared) (opening_of p (states_of g es shared)) (opens-planned p (states_of g es shared));
        each = each;
        phases = fresh-pairs es (length p.nodes) each (λ e a. each-All (λ e. g.phase_of (g.state e shared) ≡ Fresh) es e fresh a);
        apart = apart;
      }
