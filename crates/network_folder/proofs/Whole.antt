-- A whole folder, by its network file and its nodes.
use Rattle.std.proofs.Common.{◌≡◌, ◌≤◌, ◌<◌, arith, ℕ, ◌==◌, Bool, true, false, List, [], ◌∷◌, ◌++◌, length, map, All, refl, sym, ap, subst, ◌∙◌, append-nil, append_assoc}
use Rattle.std.specs.Prelude.{Option, option_map, option_and_then, Some, None, Result, Ok, Err, slice_get, flat_map, ⊤}
use Rattle.std.proofs.lemmas.List.{length-map}
use Rattle.sha2.specs.Sha256.{sha256}
use Rattle.std.proofs.lemmas.List.Elements.{All-nil, All-cons}
use Rattle.unit_specs.specs.Description.{Description}
use Rattle.description_specs.specs.Descriptions.{description_of}
use Rattle.wasm_types.specs.Modules.{NestedModule}
use Rattle.module_specs.specs.ModuleReading.{module_read}
use Rattle.code_specs.specs.Validity.{validity}
use Rattle.code_specs.specs.Instances.{first_misfit}
use Rattle.binding_specs.specs.declared.error.BindError.{BindError}
use Rattle.binding_specs.specs.Exports.{binding_fault}
use Rattle.bench_outside.specs.Shelf.{Contents}
use Rattle.document_specs.specs.Checks.{◌>>=◌, each}
use Rattle.description_laws.proofs.Steps.{bind_ok}
use Rattle.world_specs.specs.Plan.{IsPlan, NodePlan, Plan}
use Rattle.network_specs.specs.Nodes.{Node}
use Rattle.network_specs.specs.NetworkFiles.{NetworkFile, network_file_of}
use Rattle.network_specs.specs.Plans.{plan_of}
use Rattle.network_specs.specs.Judging.{ModuleRefusal, Unreadable, Broken, Unfit, Unexported, refused_as, unless, judged}
use Rattle.network_specs.specs.Networks.{File, Main, DescriptionOf, ModuleOf, Stop, InNetworkFile, Unread, Folder, NodeParts, Network, is_same_file, network_file_name, node_plan_of, node_parts_of, framed_files, network_of_parts, network_of}
use Rattle.network_laws.proofs.Planned.{IsKnown, Pairs, well_formed}
use Rattle.network_laws.proofs.ScriptInRange.{file_ranged}
use Rattle.network_folder.specs.declared.error.NetError.{NetError}
use Rattle.network_folder.specs.Outcomes.{judged_unit, network_in, whole, lacking, description_at, name_in, answer_of, outcome_of, IsUnit, IsSound}
use Rattle.network_folder.specs.Parts.{file_said, name_in_node, name_among, IsRead, AreRead}
use Rattle.network_folder.proofs.OneNode.{said_ok}
use Rattle.network_folder.proofs.AllNodes.{as_many}

-- ---- the network, or where it stops

pub network_is : (held : Contents) (net : List ℕ) (file : NetworkFile) (parts : List (NodeParts NestedModule)) → network_file_of (held (network_file_name net)) ≡ Ok file
    → each (node_parts_of judged_unit (whole held) net) [] file.nodes ≡ Ok parts → network_in (whole held) net ≡ Ok (network_of_parts file (held (network_file_name net)) parts)
unfolding network_of
network_is held net file parts is nodes = rw (is, nodes) refl

pub file_refused : (held : Contents) (net : List ℕ) (e : NetError) → file_said (held (network_file_name net)) ≡ Err e → outcome_of (network_in (whole held) net) ≡ Err e
unfolding network_of
file_refused held net e h = go (network_file_of (held (network_file_name net))) h
  where
    go : (r : Result NetworkFile _) → refused_as (λ x. answer_of (InNetworkFile x)) r ≡ Err e
        → outcome_of (refused_as InNetworkFile r >>= λ file. (each (node_parts_of judged_unit (whole held) net) [] file.nodes >>= λ nodes. Ok (network_of_parts file (held (network_file_name net)) nodes))) ≡ Err e
    go (Ok file) k = absurd (cc k)
    go (Err x) k = let same : answer_of (InNetworkFile x) ≡ e = cc k in ap (λ y. Err y) same

pub some_node_refused : (held : Contents) (net : List ℕ) (file : NetworkFile) (e : NetError) → network_file_of (held (network_file_name net)) ≡ Ok file
    → outcome_of (each (node_parts_of judged_unit (whole held) net) [] file.nodes) ≡ Err e → outcome_of (network_in (whole held) net) ≡ Err e
unfolding network_of
some_node_refused held net file e is h = rw is (go (each (node_parts_of judged_unit (whole held) net) [] file.nodes) h)
  where
    go : (r : Result (List (NodeParts NestedModule)) (Stop (ModuleRefusal BindError))) → outcome_of r ≡ Err e
        → outcome_of (r >>= λ nodes. Ok (network_of_parts file (held (network_file_name net)) nodes)) ≡ Err e
    go (Ok ps) k = absurd (cc k)
    go (Err s) k = let same : answer_of s ≡ e = cc k in ap (λ x. Err x) same

pub file_unread : (held : Contents) (net : List ℕ) → network_in (lacking held Main) net ≡ Err (Unread Main)
unfolding network_of
file_unread held net = refl

pub some_file_unread : (held : Contents) (net : List ℕ) (file : NetworkFile) (lost : File) → network_file_of (held (network_file_name net)) ≡ Ok file → is_same_file lost Main ≡ false
    → each (node_parts_of judged_unit (lacking held lost) net) [] file.nodes ≡ Err (Unread lost) → network_in (lacking held lost) net ≡ Err (Unread lost)
unfolding network_of
some_file_unread held net file lost is other h = rw (other, is, h) refl

-- its name
pub name_is : (held : Contents) (net : List ℕ) (file : NetworkFile) (lost : File) (name : List ℕ) → network_file_of (held (network_file_name net)) ≡ Ok file → name_among held net file.nodes lost ≡ Some name → name_in held net lost ≡ Some name
name_is held net file Main name is h = absurd (cc h)
name_is held net file (DescriptionOf place) name is h = rw is (described (slice_get file.nodes place) h)
  where
    described : (o : Option Node) → option_and_then (λ n. name_in_node held net n (DescriptionOf place)) o ≡ Some name → option_map (description_at net) o ≡ Some name
    described None k = absurd (cc k)
    described (Some n) k = k
name_is held net file (ModuleOf place) name is h = rw is h

-- ---- every network that was read

unless_ok : {E F : Type 0} (f : E → F) (o : Option E) → unless f o ≡ Ok tt → o ≡ None
unless_ok f None h = refl
unless_ok f (Some e) h = absurd (cc h)

refused_ok : {E F A : Type 0} (f : E → F) (r : Result A E) (x : A) → refused_as f r ≡ Ok x → r ≡ Ok x
refused_ok f (Ok y) x h = let e : y ≡ x = cc h in ap (λ z. Ok z) e
refused_ok f (Err e) x h = absurd (cc h)

-- a module that is accepted is that of a unit
pub unit_is : (d : Description) (bytes : List ℕ) (m : NestedModule) → judged_unit d bytes ≡ Ok m → IsUnit m
unfolding judged
unit_is d bytes m h =
    let read = bind_ok (refused_as Unreadable (module_read bytes)) _ m h in
    let valid = bind_ok (refused_as Broken (validity read.0)) _ m read.2 in
    let fits = bind_ok (unless Unfit (first_misfit read.0)) _ m valid.2 in
    let bound = bind_ok (unless Unexported (binding_fault read.0)) _ m fits.2 in
    let same : read.0 ≡ m = cc bound.2 in
    subst IsUnit same (record { fits = unless_ok Unfit (first_misfit read.0) fits.1; bound = unless_ok Unexported (binding_fault read.0) bound.1 })

pub units_are : (holds : Option Contents) (net : List ℕ) (ns : List Node) (ps : List (NodeParts NestedModule)) → AreRead holds net ns ps → All IsUnit (map (λ (p : NodeParts NestedModule). p.code) ps)
units_are holds net [] [] r = All-nil IsUnit
units_are holds net [] (p ∷ ps) r = absurd r
units_are holds net (n ∷ ns) [] r = absurd r
units_are holds net (n ∷ ns) (p ∷ ps) r = All-cons IsUnit p.code (map (λ (q : NodeParts NestedModule). q.code) ps) (unit_is p.description p.code_bytes p.code r.0.judged) (units_are holds net ns ps r.1)

known : (holds : Option Contents) (net : List ℕ) (ns : List Node) (ps : List (NodeParts NestedModule)) → AreRead holds net ns ps → Pairs judged_unit ns ps
known holds net [] [] r = tt
known holds net [] (p ∷ ps) r = absurd r
known holds net (n ∷ ns) [] r = absurd r
known holds net (n ∷ ns) (p ∷ ps) r = (record { text = p.description_bytes; described = r.0.described; attached = r.0.attached }, known holds net ns ps r.1)

pub plan_is : (holds : Option Contents) (net : List ℕ) (bytes : List ℕ) (file : NetworkFile) (ps : List (NodeParts NestedModule)) → network_file_of bytes ≡ Ok file → AreRead holds net file.nodes ps → IsPlan (plan_of file (map node_plan_of ps))
plan_is holds net bytes file ps is r = well_formed judged_unit file ps (file_ranged bytes file is) (known holds net file.nodes ps r)

-- ---- what was read, together

pub file_known : (bytes : List ℕ) (file : NetworkFile) → file_said bytes ≡ Ok file → network_file_of bytes ≡ Ok file
file_known bytes file h = said_ok (λ e. answer_of (InNetworkFile e)) (network_file_of bytes) file h

pub few : (bytes : List ℕ) (file : NetworkFile) → file_said bytes ≡ Ok file → (length file.nodes ≤ 32) × (length file.buses ≤ 4)
few bytes file h = let r = file_ranged bytes file (file_known bytes file h) in (r.some_nodes.1, r.some_buses.1)

pub few_plans : (holds : Option Contents) (net : List ℕ) (nodes : List Node) (ps : List (NodeParts NestedModule)) (plans : List NodePlan) → AreRead holds net nodes ps → map node_plan_of ps ≡ plans → length nodes ≤ 32 → length plans < 4294967296
few_plans holds net nodes ps plans r is h =
    let many = as_many holds net nodes ps r in
    let same = ap length (sym is) ∙ length-map ps node_plan_of in
    omega (arith, many, same, h)

abbrev made : Plan → List NestedModule → List ℕ → Network NestedModule
made plan codes digest = record { plan = plan; codes = codes; digest = digest }

pub same_network : (file : NetworkFile) (text : List ℕ) (ps : List (NodeParts NestedModule)) (plan : Plan) (plans : List NodePlan) (codes : List NestedModule) (digest : List ℕ) → plan ≡ plan_of file plans → map node_plan_of ps ≡ plans
    → map (λ (p : NodeParts NestedModule). p.code) ps ≡ codes → digest ≡ sha256 (framed_files text ps) → network_of_parts file text ps ≡ made plan codes digest
same_network file text ps plan plans codes digest plan_is plans_are codes_are digest_is =
    ap (λ p. made p (map (λ (q : NodeParts NestedModule). q.code) ps) (sha256 (framed_files text ps))) (ap (plan_of file) plans_are ∙ sym plan_is)
    ∙ (ap (λ cs. made plan cs (sha256 (framed_files text ps))) codes_are ∙ ap (made plan codes) (sym digest_is))

pub sound_is : (holds : Option Contents) (net : List ℕ) (bytes : List ℕ) (file : NetworkFile) (ps : List (NodeParts NestedModule)) (plan : Plan) (plans : List NodePlan) (codes : List NestedModule) (digest : List ℕ) → network_file_of bytes ≡ Ok file
    → AreRead holds net file.nodes ps → plan ≡ plan_of file plans → map node_plan_of ps ≡ plans → map (λ (p : NodeParts NestedModule). p.code) ps ≡ codes → IsSound (made plan codes digest)
sound_is holds net bytes file ps plan plans codes digest is r plan_at plans_are codes_are = record {
  plan = subst IsPlan (ap (plan_of file) plans_are ∙ sym plan_at) (plan_is holds net bytes file ps is r);
  one_each = ap length (sym codes_are) ∙ (length-map ps (λ (p : NodeParts NestedModule). p.code) ∙ (sym (length-map ps node_plan_of) ∙ (ap length plans_are ∙ ap (λ (p : Plan). length p.nodes) (sym plan_at))));
  units = subst (All IsUnit) codes_are (units_are holds net file.nodes ps r);
}
