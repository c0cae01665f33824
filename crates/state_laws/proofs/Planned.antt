-- The buses stay those of the plan with its nodes on them, the nodes keep their numbers, buses and clocks.
use Rattle.std.proofs.Common.{◌≡◌, ◌≤◌, ℕ, ◌^◌, suc, ◌==◌, Bool, true, false, if◌then◌else◌, List, [], ◌∷◌, map, length, Option, None, All, refl, sym}
use Rattle.std.proofs.Common.{ap, ◌∙◌, subst}
use Rattle.fmi_states.specs.declared.phase.Phase.{Phase}
use Rattle.fmi_states.specs.declared.call.Call.{Call}
use Rattle.fmi_states.specs.declared.reply.Reply.{Reply}
use Rattle.run_specs.specs.Run.{behind}
use Rattle.session_specs.specs.Outcome.{SessionOut, DueChange, End}
use Rattle.session_specs.specs.Outcome as session
use Rattle.session_laws.proofs.Changes.{session_changes}
use Rattle.bus_specs.specs.Bus.{Bus, Member, Setup, new_bus, new_member, data_bit}
use Rattle.bus_specs.specs.Start.{start}
use Rattle.bus_specs.specs.Finish.{finish, recover}
use Rattle.bus_specs.specs.Inbox.{enter, leave, member_after_leaving}
use Rattle.bus_sound.proofs.Members.{KeepsNodes, nodes-map}
use Rattle.bus_sound.proofs.Quiet.{one}
use Rattle.bus_sound.proofs.Steady.{Steady, submit-steady, take-steady, enter-steady, start-steady, finish-steady, recover-steady}
use Rattle.bus_sound.proofs.Lists.{All-each}
use Rattle.world_specs.specs.Units.{Units}
use Rattle.world_specs.specs.World.{World, Node, Standing, New, Live, Down, Over}
use Rattle.world_specs.specs.Next.{What, Finish, Return, Sessions, Start, Event}
use Rattle.world_specs.specs.Sessions.{turns, takes_part, given_to, session_from, clocks_after, clocks_of, standing_after, node_behind}
use Rattle.world_specs.specs.Sessions.{node_after}
use Rattle.world_specs.specs.Step.{outcome_of, world_behind}
use Rattle.world_specs.specs.Network.{network}
use Rattle.world_specs.specs.Plan.{Plan, BusPlan, description_of, session_in, units_of, new_nodes, opening_of}
use Rattle.world_laws.proofs.Lists.{map-map, map-same, all-map}
use Rattle.world_laws.proofs.OneBus.{Kept, bus_behind, buses-behind, each-bus, turns-kept}
use Rattle.world_laws.proofs.Changed.{number-stays, buses-stay, along}
use Rattle.state_laws.specs.Words.{IsShort, IsAsPlanned, clocks_in, ChangesEach, HasClocks}
use Rattle.state_laws.proofs.Opening.{fresh}

-- ---- one bus

-- the same setup, the same nodes
record Same (b after : Bus) : Type 0 where
  setup : after.setup ≡ b.setup
  nodes : map (λ m. m.node) after.members ≡ map (λ m. m.node) b.members

steady-same : (b after : Bus) → Steady b after → Same b after
steady-same b after s =
    record { setup = s.setup; nodes = ap (map (λ (m : Member). m.node)) s.members ∙ nodes-map s.change s.node b.members }

then-same : (a b c : Bus) → Same a b → Same b c → Same a c
then-same a b c x y = record { setup = y.setup ∙ x.setup; nodes = y.nodes ∙ x.nodes }

one-node : (node : ℕ) (change : Member → Member) → KeepsNodes change → KeepsNodes (one node change)
one-node node change k m = go (m.node == node)
  where
    go : (t : Bool) → (if t then change m else m).node ≡ m.node
    go true = k m
    go false = refl

leave-same : (b : Bus) (node : ℕ) → Same b (leave b node)
leave-same b node =
    record { setup = refl; nodes = nodes-map (one node member_after_leaving) (one-node node member_after_leaving (λ m. refl)) b.members }

same-kept : (t : ℕ) (a : Bus) → Kept t (Same a)
same-kept t a = record {
  enter = λ b node h. then-same a b (enter b node) h (steady-same b _ (enter-steady b node));
  take = λ b node h. then-same a b _ h (steady-same b _ (take-steady b t node));
  submit = λ b node what h. then-same a b _ h (steady-same b _ (submit-steady b t node what));
  leave = λ b node h. then-same a b (leave b node) h (leave-same b node);
}

module _ {S : Type 0} (u : Units S) (w : World S) (t : ℕ) where
  if-same : (b after : Bus) → Same b after → (q : Bool) → Same b (if q then after else b)
  if-same b after h true = h
  if-same b after h false = record { setup = refl; nodes = refl }

  bus-same : (k : What) (b : Bus) → Same b (bus_behind u w t k b)
  bus-same (Finish bus) b = if-same b (finish b t).0 (steady-same b _ (finish-steady b t)) (b.setup.number == bus)
  bus-same (Return bus node) b = if-same b (recover b t node).0 (steady-same b _ (recover-steady b t node)) (b.setup.number == bus)
  bus-same Sessions b = turns-kept t (Same b) (same-kept t b) (turns u w.buses t w.nodes) b (record { setup = refl; nodes = refl })
  bus-same (Start bus) b = if-same b (start b t).0 (steady-same b _ (start-steady b t)) (b.setup.number == bus)

  each-same : {X : Type 0} (f : Bus → X) → ((b after : Bus) → Same b after → f after ≡ f b) → (k : What)
      → map f (outcome_of u w t k).buses ≡ map f w.buses
  each-same f h k = ap (map f) (buses-behind u w t k) ∙ map-map f (bus_behind u w t k) w.buses
      ∙ map-same (λ b. f (bus_behind u w t k b)) f w.buses (λ b a. h b (bus_behind u w t k b) (bus-same k b))

  each-node : {X : Type 0} (f : Node S → X) → ((n : Node S) → f (node_after u w.buses t n) ≡ f n) → (k : What)
      → map f (outcome_of u w t k).nodes ≡ map f w.nodes
  each-node f h (Finish bus) = refl
  each-node f h (Return bus node) = refl
  each-node f h Sessions = map-map f (node_after u w.buses t) w.nodes ∙ map-same (λ n. f (node_after u w.buses t n)) f w.nodes (λ n a. h n)
  each-node f h (Start bus) = refl

pub stays-planned : {S : Type 0} (u : Units S) (p : Plan) (states : List S) (w : World S) (e : Event) → IsAsPlanned p states w
    → IsAsPlanned p states (world_behind u w e)
stays-planned {S} u p states w e h = record {
  setups = each-same u w e.moment (λ (b : Bus). b.setup) (λ b after s. s.setup) e.what ∙ h.setups;
  members = each-same u w e.moment (λ (b : Bus). map (λ m. m.node) b.members) (λ b after s. s.nodes) e.what ∙ h.members;
  numbers = each-node u w e.moment (λ (n : Node S). n.number) (λ n. number-stays u w.buses e.moment n) e.what ∙ h.numbers;
  terminals = each-node u w e.moment (λ (n : Node S). n.buses) (λ n. buses-stay u w.buses e.moment n) e.what ∙ h.terminals;
}

-- so the bits stay as short
pub short-stays : {S : Type 0} (u : Units S) (w : World S) (e : Event) → All IsShort w.buses → All IsShort (world_behind u w e).buses
short-stays u w e h = each-bus u w e.moment e.what IsShort IsShort (λ b a i.
    let s = (bus-same u w e.moment e.what b).setup in record {
      nominal = subst (λ (x : Setup). x.nominal ≤ 10 ^ 12) (sym s) i.nominal;
      fast = subst (λ (x : Setup). data_bit (new_bus x []) ≤ 10 ^ 12) (sym s) i.fast;
    }) h

same-numbers : (ns : List ℕ) → map (λ (m : Member). m.node) (map new_member ns) ≡ ns
same-numbers [] = refl
same-numbers (n ∷ ns) = rw (same-numbers ns) refl

pub opens-planned : {S : Type 0} (p : Plan) (states : List S) → IsAsPlanned p states (opening_of p states)
opens-planned p states = record {
  setups = map-map (λ (b : Bus). b.setup) (λ b. new_bus b.setup b.members) p.buses;
  members = map-map (λ (b : Bus). map (λ m. m.node) b.members) (λ b. new_bus b.setup b.members) p.buses
      ∙ map-same (λ (b : BusPlan). map (λ (m : Member). m.node) (map new_member b.members)) (λ (b : BusPlan). b.members) p.buses
      (λ b a. same-numbers b.members);
  numbers = refl;
  terminals = refl;
}

pub planned-along : {S : Type 0} (u : Units S) (p : Plan) (states : List S) (stop k : ℕ)
    → IsAsPlanned p states (behind (network u stop) k (opening_of p states))
planned-along u p states stop k =
    along u stop (IsAsPlanned p states) (λ w e n h. stays-planned u p states w e h) k (opening_of p states) (opens-planned p states)

-- ---- clocks

pub units-each : {S : Type 0} (answer : S → Call → Reply × S) (phase_of : S → Phase) (p : Plan)
    → ChangesEach (clocks_in p) (units_of answer phase_of p)
units-each answer phase_of p = record {
  each = λ node g s. (session_changes answer phase_of (description_of p node) (session_in p.resolution (description_of p node) g) s).each;
}

-- a clock for each change
clocks-each : (t : ℕ) (ds : List DueChange) (cs : List (Option ℕ)) → length (clocks_after t ds cs) ≡ length ds
clocks-each t [] cs = refl
clocks-each t (d ∷ ds) [] = ap suc (clocks-each t ds [])
clocks-each t (d ∷ ds) (c ∷ cs) = ap suc (clocks-each t ds cs)

module _ {S : Type 0} (u : Units S) (count : ℕ → ℕ) (has : ChangesEach count u) (bs : List Bus) (t : ℕ) (n : Node S) where
  end-each : (r : SessionOut × S) → length (r.0).dues ≡ count n.number → (e : End)
      → HasClocks (count n.number) (standing_after t r.0 r.1 n.standing e)
  end-each r l session.Live = clocks-each t (r.0).dues (clocks_of n.standing) ∙ l
  end-each r l session.Over = tt
  end-each r l (session.Down cause) = tt

  node-each : HasClocks (count n.number) n.standing → HasClocks (count n.number) (node_after u bs t n).standing
  node-each h = part (takes_part bs t n)
    where
      ran : (s : Standing S) → HasClocks (count n.number) (node_behind t n (session_from u bs t n s)).standing
      ran (New s) = let r = u.session n.number (given_to bs t n 0 []) s in end-each r (has.each n.number (given_to bs t n 0 []) s) (r.0).end
      ran (Live s last clocks) = let r = u.session n.number (given_to bs t n last clocks) s in
          end-each r (has.each n.number (given_to bs t n last clocks) s) (r.0).end
      ran Down = h
      ran Over = h

      part : (q : Bool) → HasClocks (count n.number) (node_behind t n (if q then session_from u bs t n n.standing else None)).standing
      part true = ran n.standing
      part false = h

  node-has : HasClocks (count n.number) n.standing → HasClocks (count (node_after u bs t n).number) (node_after u bs t n).standing
  node-has h = subst (λ (k : ℕ). HasClocks (count k) (node_after u bs t n).standing) (sym (number-stays u bs t n)) (node-each h)

pub stays-clocked : {S : Type 0} (u : Units S) (count : ℕ → ℕ) (w : World S) (e : Event) → ChangesEach count u
    → All (λ n. HasClocks (count n.number) n.standing) w.nodes → All (λ n. HasClocks (count n.number) n.standing) (world_behind u w e).nodes
stays-clocked {S} u count w e has h = go e.what
  where
    go : (k : What) → All (λ (n : Node S). HasClocks (count n.number) n.standing) (outcome_of u w e.moment k).nodes
    go (Finish bus) = h
    go (Return bus node) = h
    go Sessions =
        all-map (λ (n : Node S). HasClocks (count n.number) n.standing) (λ (n : Node S). HasClocks (count n.number) n.standing)
        (node_after u w.buses e.moment) w.nodes
        (λ n a i. node-has u count has w.buses e.moment n i) h
    go (Start bus) = h

pub clocked-along : {S : Type 0} (u : Units S) (p : Plan) (states : List S) (stop k : ℕ) → ChangesEach (clocks_in p) u
    → All (λ n. HasClocks (clocks_in p n.number) n.standing) (behind (network u stop) k (opening_of p states)).nodes
clocked-along {S} u p states stop k has = along u stop (λ w. All (λ n. HasClocks (clocks_in p n.number) n.standing) w.nodes)
    (λ w e n h. stays-clocked u (clocks_in p) w e has h) k (opening_of p states)
    (All-each (λ (n : Node S). HasClocks (clocks_in p n.number) n.standing) (new_nodes 0 p.nodes states)
    (λ n a. let f = fresh 0 p.nodes states n a in subst (λ (s : Standing S). HasClocks (clocks_in p n.number) s) (sym f.standing) tt))
