-- The plan of an accepted network is well formed.
use Rattle.std.proofs.Common.{◌≡◌, ℕ, zero, suc, ◌+◌, ◌==◌, ◌||◌, Bool, true, false, List, [], ◌∷◌, ◌++◌, length, All, Option, Some, None, Result, Ok, Err, IfSome, refl, sym, ap, subst, ◌∙◌, append-nil, append_assoc, arith}
use Rattle.std.specs.Prelude.{option_map, if◌then◌else◌, map, filter, slice_get, ⊤}
use Rattle.std.specs.List.{AllByRecursion}
use Rattle.std.proofs.lemmas.Bool.Decides.{nat_tests}
use Rattle.std.proofs.lemmas.List.Elements.{All-nil, All-cons}
use Rattle.unit_specs.specs.Description.{Description}
use Rattle.document_specs.specs.Checks.{each}
use Rattle.description_specs.specs.Descriptions.{description_of}
use Rattle.bus_specs.specs.Bus.{among}
use Rattle.world_specs.specs.Plan.{IsDataBitTime, IsEntry, IsBusPlan, IsNodePlan, IsPlan, AllFrom, NodePlan, Plan, naming_from}
use Rattle.network_specs.specs.declared.field.NetworkField.TheVariants.{NodeBus}
use Rattle.network_specs.specs.Settings.{refusal}
use Rattle.network_specs.specs.Buses.{Rate, Bus}
use Rattle.network_specs.specs.Nodes.{Node, stands_on}
use Rattle.network_specs.specs.Scripts.{ScriptEntry}
use Rattle.network_specs.specs.NetworkFiles.{NetworkFile, network_file_of}
use Rattle.network_specs.specs.Plans.{attached_buses, entries_on, bus_plans_from, plan_of}
use Rattle.network_specs.specs.Judging.{refused_as}
use Rattle.network_specs.specs.Networks.{Main, DescriptionOf, ModuleOf, InNetworkFile, InDescription, InModule, Folder, NodeParts, Network, read, network_file_name, description_name, module_name, node_plan_of, network_of_parts, node_parts_at, node_parts_of, network_of}
use Rattle.description_laws.proofs.Steps.{needs_ok, bind_ok}
use Rattle.network_laws.specs.Ranges.{IsRate, IsBus, IsNode, IsOn, IsScriptEntry, IsInRange}
use Rattle.network_laws.proofs.Numbers.{itself}
use Rattle.network_laws.proofs.Units.{names_differ, unit_planned}
use Rattle.network_laws.proofs.Attached.{AreAttached, are_attached}
use Rattle.network_laws.proofs.ScriptInRange.{file_ranged}

refused_ok : {E F A : Type 0} (f : E → F) (r : Result A E) (x : A) → refused_as f r ≡ Ok x → r ≡ Ok x
refused_ok f (Ok y) x h = let e : y ≡ x = cc h in ap Ok e
refused_ok f (Err e) x h = absurd (cc h)

-- ---- which nodes name a bus

named_by : (k i bus : ℕ) (ns : List NodePlan) (n : NodePlan) → slice_get ns i ≡ Some n → among n.buses bus ≡ true
    → among (naming_from k ns bus) (k + i) ≡ true
named_by k i bus [] n there stands = absurd (cc there)
named_by k zero bus (m ∷ ms) n there stands =
    let same : m ≡ n = cc there in
    let here : among m.buses bus ≡ true = subst (λ (x : NodePlan). among x.buses bus ≡ true) (sym same) stands in
    rw here (first (naming_from (k + 1) ms bus))
  where
    first : (rest : List ℕ) → among (k ∷ rest) (k + 0) ≡ true
    first rest = let e : (k == (k + 0)) ≡ true = itself k (k + 0) (omega arith) in rw e refl
named_by k (suc i) bus (m ∷ ms) n there stands =
    by_test (among m.buses bus) (subst (λ j. among (naming_from (k + 1) ms bus) j ≡ true) (omega arith)
    (named_by (k + 1) i bus ms n there stands))
  where
    by_test : (b : Bool) → among (naming_from (k + 1) ms bus) (k + suc i) ≡ true
        → among (if b then k ∷ naming_from (k + 1) ms bus else naming_from (k + 1) ms bus) (k + suc i) ≡ true
    by_test true h = or_right (k == (k + suc i)) (among (naming_from (k + 1) ms bus) (k + suc i)) h
      where
        or_right : (a b : Bool) → b ≡ true → (a || b) ≡ true
        or_right true b h = refl
        or_right false b h = h
    by_test false h = h

-- ---- the script of a bus

same_number : (n k : ℕ) → (n == k) ≡ true → n ≡ k
same_number n k h = grind (arith, nat_tests)

-- the node that detects an error is one of its bus
detects : (nodes : List Node) (members : List ℕ) (bus : ℕ) → ((i : ℕ) → IsOn nodes bus i → among members i ≡ true) → (by : Option ℕ)
    → IfSome by (IsOn nodes bus) → IfSome by (λ i. among members i ≡ true)
detects nodes members bus h None k = tt
detects nodes members bus h (Some i) k = h i k

entry_planned : (buses : ℕ) (nodes : List Node) (members : List ℕ) (place : ℕ) → ((i : ℕ) → IsOn nodes place i → among members i ≡ true)
    → (e : ScriptEntry) → e.bus ≡ place → IsScriptEntry buses nodes e → IsEntry members e.entry
entry_planned buses nodes members place h e here k = record {
  first = k.first;
  count = k.count;
  kind = k.kind;
  by = detects nodes members place h e.entry.by (subst (λ b. IfSome e.entry.by (IsOn nodes b)) here k.by);
  bit = k.bit;
}

entries_planned : (buses : ℕ) (nodes : List Node) (members : List ℕ) (place : ℕ) → ((i : ℕ) → IsOn nodes place i → among members i ≡ true)
    → (es : List ScriptEntry) → AllByRecursion (IsScriptEntry buses nodes) es → All (IsEntry members) (entries_on place es)
entries_planned buses nodes members place h [] all = All-nil (IsEntry members)
entries_planned buses nodes members place h (e ∷ es) all = by_test (e.bus == place) refl
    (entries_planned buses nodes members place h es all.1)
  where
    by_test : (b : Bool) → (e.bus == place) ≡ b → All (IsEntry members) (entries_on place es)
        → All (IsEntry members) (map (λ (x : ScriptEntry). x.entry)
        (if b then e ∷ filter (λ (x : ScriptEntry). x.bus == place) es else filter (λ (x : ScriptEntry). x.bus == place) es))
    by_test true is rest = All-cons (IsEntry members) e.entry (entries_on place es)
        (entry_planned buses nodes members place h e (same_number e.bus place is) all.0) rest
    by_test false is rest = rest

-- ---- the buses

data_time : (resolution : ℕ) (o : Option Rate) → IfSome o (IsRate resolution)
    → IsDataBitTime resolution (option_map (λ (r : Rate). r.bits) o) (option_map (λ (r : Rate). r.ticks) o)
data_time resolution None h = tt
data_time resolution (Some r) h = h

bus_count : (place : ℕ) (es : List ScriptEntry) (nodes : List NodePlan) (bs : List Bus)
    → length (bus_plans_from place es nodes bs) ≡ length bs
bus_count place es nodes [] = refl
bus_count place es nodes (b ∷ bs) = ap suc (bus_count (place + 1) es nodes bs)

buses_planned : (p : Plan) (place buses : ℕ) (nodes : List Node) (es : List ScriptEntry)
    → ((bus i : ℕ) → IsOn nodes bus i → among (naming_from 0 p.nodes bus) i ≡ true)
    → AllByRecursion (IsScriptEntry buses nodes) es → (bs : List Bus) → AllByRecursion (IsBus p.resolution) bs
    → AllFrom place (IsBusPlan p) (bus_plans_from place es p.nodes bs)
buses_planned p place buses nodes es h script [] all = tt
buses_planned p place buses nodes es h script (b ∷ bs) all = (
  record {
    number = refl;
    rate = all.0.rate;
    fd_rate = data_time p.resolution b.fd_rate all.0.fd_rate;
    members = refl;
    errors = entries_planned buses nodes (naming_from 0 p.nodes place) place (h place) es script;
  },
  buses_planned p (place + 1) buses nodes es h script bs all.1,
)

-- ---- the nodes

module _ {Code Why : Type 0} (judge : Description → List ℕ → Result Code Why) where
  -- what the files of a node say
  pub record IsKnown (node : Node) (part : NodeParts Code) : Type 0 where
    pub text : List ℕ
    pub described : description_of text ≡ Ok part.description
    pub attached : attached_buses node.attachments part.description.terminals ≡ Some part.buses

  known : (folder : Folder) (net : List ℕ) (place : ℕ) (node : Node) (part : NodeParts Code)
      → node_parts_at judge folder net place node ≡ Ok part → IsKnown node part
  unfolding node_parts_at
  known folder net place node part h =
      let text = bind_ok (read {Why = Why} folder (DescriptionOf place) (description_name net node.fmu)) _ part h in
      let d = bind_ok (refused_as (InDescription place) (description_of text.0)) _ part text.2 in
      let buses = needs_ok (InNetworkFile (refusal NodeBus place)) (attached_buses node.attachments d.0.terminals) _ part d.2 in
      let bytes = bind_ok (read {Why = Why} folder (ModuleOf place) (module_name net node.fmu d.0.identifier)) _ part buses.2 in
      let code = bind_ok (refused_as (InModule place) (judge d.0 bytes.0)) _ part bytes.2 in
      let same : record { description = d.0; buses = buses.0; code = code.0; description_bytes = text.0; code_bytes = bytes.0 } ≡ part = cc
      code.2 in
      subst (IsKnown node) same (record {
        text = text.0;
        described = refused_ok (InDescription place) (description_of text.0) d.0 d.1;
        attached = buses.1;
      })

  abbrev pub Pairs : List Node → List (NodeParts Code) → Type 0
  Pairs [] [] = ⊤
  Pairs [] (p ∷ ps) = ⊥
  Pairs (n ∷ ns) [] = ⊥
  Pairs (n ∷ ns) (p ∷ ps) = IsKnown n p × Pairs ns ps

  paired : (folder : Folder) (net : List ℕ) (before : List (NodeParts Code)) (ns : List Node) (all : List (NodeParts Code))
      → each (node_parts_of judge folder net) before ns ≡ Ok all
      → (ps : List (NodeParts Code)) × (before ++ ps ≡ all) × Pairs ns ps
  paired folder net before [] all h = let e : before ≡ all = cc h in ([], append-nil before ∙ e, tt)
  paired folder net before (n ∷ ns) all h =
      let k = bind_ok (node_parts_at judge folder net (length before) n) _ all h in
      let r = paired folder net (before ++ k.0 ∷ []) ns all k.2 in
      (k.0 ∷ r.0, sym (append_assoc before (k.0 ∷ []) r.0) ∙ r.1, (known folder net (length before) n k.0 k.1, r.2))

  one_attached : (buses : ℕ) (n : Node) (p : NodeParts Code) → IsKnown n p → IsNode buses n
      → AreAttached buses n.attachments p.description.terminals p.buses
  one_attached buses n p k h = are_attached buses n.attachments p.description.terminals p.buses k.attached
      (names_differ k.text p.description k.described) h.there h.distinct

  one_planned : (buses : ℕ) (n : Node) (p : NodeParts Code) → IsKnown n p → IsNode buses n → IsNodePlan buses (node_plan_of p)
  one_planned buses n p k h =
      let a = one_attached buses n p k h in
      record { description = unit_planned k.text p.description k.described; one_each = a.one_each; there = a.there; distinct = a.distinct }

  all_planned : (buses : ℕ) (ns : List Node) (ps : List (NodeParts Code)) → Pairs ns ps → AllByRecursion (IsNode buses) ns
      → All (IsNodePlan buses) (map node_plan_of ps)
  all_planned buses [] [] k h = All-nil (IsNodePlan buses)
  all_planned buses [] (p ∷ ps) k h = absurd k
  all_planned buses (n ∷ ns) [] k h = absurd k
  all_planned buses (n ∷ ns) (p ∷ ps) k h = All-cons (IsNodePlan buses) (node_plan_of p) (map node_plan_of ps)
      (one_planned buses n p k.0 h.0) (all_planned buses ns ps k.1 h.1)

  as_many : (ns : List Node) (ps : List (NodeParts Code)) → Pairs ns ps → length (map node_plan_of ps) ≡ length ns
  as_many [] [] k = refl
  as_many [] (p ∷ ps) k = absurd k
  as_many (n ∷ ns) [] k = absurd k
  as_many (n ∷ ns) (p ∷ ps) k = ap suc (as_many ns ps k.1)

  -- a node that stands on a bus names it in the plan
  names_it : (buses bus i : ℕ) (ns : List Node) (ps : List (NodeParts Code)) (n : Node) → Pairs ns ps → AllByRecursion (IsNode buses) ns
      → slice_get ns i ≡ Some n → stands_on n.attachments bus ≡ true
      → (np : NodePlan) × (slice_get (map node_plan_of ps) i ≡ Some np) × (among np.buses bus ≡ true)
  names_it buses bus i [] ps n k h there stands = absurd (cc there)
  names_it buses bus i (m ∷ ms) [] n k h there stands = absurd k
  names_it buses bus zero (m ∷ ms) (p ∷ ps) n k h there stands =
      let same : m ≡ n = cc there in (
        node_plan_of p,
        refl,
        (one_attached buses m p k.0 h.0).all_of_them bus
            (subst (λ (x : Node). stands_on x.attachments bus ≡ true) (sym same) stands),
      )
  names_it buses bus (suc i) (m ∷ ms) (p ∷ ps) n k h there stands = names_it buses bus i ms ps n k.1 h.1 there stands

  member : (buses : ℕ) (ns : List Node) (ps : List (NodeParts Code)) → Pairs ns ps → AllByRecursion (IsNode buses) ns → (bus i : ℕ)
      → IsOn ns bus i → among (naming_from 0 (map node_plan_of ps) bus) i ≡ true
  member buses ns ps k h bus i on =
      let r = names_it buses bus i ns ps on.node k h on.there on.stands in
      subst (λ j. among (naming_from 0 (map node_plan_of ps) bus) j ≡ true) (omega arith)
      (named_by 0 i bus (map node_plan_of ps) r.0 r.1 r.2)

  pub well_formed : (file : NetworkFile) (ps : List (NodeParts Code)) → IsInRange file → Pairs file.nodes ps
      → IsPlan (plan_of file (map node_plan_of ps))
  well_formed file ps r k =
      let nodes = map node_plan_of ps in
      let many = as_many file.nodes ps k in
      let buses = bus_count 0 file.script nodes file.buses in
      record {
        resolution = r.resolution;
        stop = r.stop;
        events = r.events;
        fuel = r.fuel;
        some_buses = (omega (arith, r.some_buses.0, buses), omega (arith, r.some_buses.1, buses));
        some_nodes = (omega (arith, r.some_nodes.0, many), omega (arith, r.some_nodes.1, many));
        buses = buses_planned (plan_of file nodes) 0 (length file.buses) file.nodes file.script
            (member (length file.buses) file.nodes ps k r.nodes) r.errors file.buses r.buses;
        nodes = subst (λ n. All (IsNodePlan n) nodes) (sym buses) (all_planned (length file.buses) file.nodes ps k r.nodes);
      }

  pub planned : (folder : Folder) (net : List ℕ) (n : Network Code) → network_of judge folder net ≡ Ok n → IsPlan n.plan
  unfolding network_of
  planned folder net n h =
      let text = bind_ok (read {Why = Why} folder Main (network_file_name net)) _ n h in
      let file = bind_ok (refused_as InNetworkFile (network_file_of text.0)) _ n text.2 in
      let parts = bind_ok (each (node_parts_of judge folder net) [] file.0.nodes) _ n file.2 in
      let same : network_of_parts file.0 text.0 parts.0 ≡ n = cc parts.2 in
      let ps = paired folder net [] file.0.nodes parts.0 parts.1 in
      let known = subst (Pairs file.0.nodes) ps.1 ps.2 in
      subst (λ (m : Network Code). IsPlan m.plan) same (well_formed file.0 parts.0
      (file_ranged text.0 file.0 (refused_ok InNetworkFile (network_file_of text.0) file.0 file.1)) known)
