use Rattle.std.proofs.Common.{◌≡◌, ◌≤◌, List, length, map, ap, sym, subst, ◌∙◌, arith, [], ◌++◌}
use Rattle.std.specs.Prelude.{Ok, Err, Some, flat_map}
use Rattle.bench_outside.specs.declared.refusal.FileId.TheVariants as id
use Rattle.document_specs.specs.Checks.{each}
use Rattle.wasm_types.specs.Back.{nested_module}
use Rattle.network_specs.specs.Nodes.{Node}
use Rattle.network_specs.specs.NetworkFiles.{NetworkFile, network_file_of}
use Rattle.network_specs.specs.Networks.{Main, Unread as unread, framed, network_file_name, node_parts_of}
use Rattle.network_folder.specs.declared.error.NetError.TheVariants.{Refused, Unread}
use Rattle.network_folder.specs.Outcomes.{judged_unit, whole, lacking, outcome_of}
use Rattle.network_folder.specs.Parts.{AreRead, name_among, framed_node}
use Rattle.network_folder.proofs.AllNodes.{all_read}
use Rattle.network_folder.proofs.Whole.{network_is, file_refused, some_node_refused, file_unread, some_file_unread, name_is, file_known, few, few_plans, same_network, sound_is}
use Rattle.network_folder.proofs.reading.read_network.Goals as goal

pub returns-in-Err-clause-refused : goal.returns-in-Err-clause-refused
returns-in-Err-clause-refused g c = λ r held is held_is.
    let same : c.in-Err.error ≡ Refused r = cc is in
    file_refused held c.args.net.now (Refused r) (c.in-Err.ensures.refused r held (ap (λ x. Err x) same) held_is)

pub returns-in-Err-clause-unread : goal.returns-in-Err-clause-unread
returns-in-Err-clause-unread g c = λ file held is held_is.
    let same : c.in-Err.error ≡ Unread file = cc is in
    let k = c.in-Err.ensures.unread file (ap (λ x. Err x) same) in
    (Main, k.0, file_unread held c.args.net.now, ap (λ n. Some n) (sym k.1))

pub read_nodes-requires : goal.read_nodes-requires
read_nodes-requires g c =
    let nodes : c.deref.result.now ≡ c.in-Ok.file.nodes = c.deref.ensures.value ∙ ap (λ (f : NetworkFile). f.nodes) c.file.view_is in
    subst (λ (ns : List Node). length ns ≤ 32) (sym nodes) (few c.in-Ok.ensures.found.0 c.in-Ok.file c.in-Ok.ensures.found.1).0

pub returns-in-Err-read_nodes-clause-refused : goal.returns-in-Err-read_nodes-clause-refused
returns-in-Err-read_nodes-clause-refused g c = λ r held is held_is.
    let same : c.in-Err-read_nodes.error ≡ Refused r = cc is in
    let nodes : c.deref.result.now ≡ c.in-Ok.file.nodes = c.deref.ensures.value ∙ ap (λ (f : NetworkFile). f.nodes) c.file.view_is in
    let known : network_file_of (held (network_file_name c.args.net.now)) ≡ Ok c.in-Ok.file =
    ap network_file_of (sym (c.in-Ok.ensures.found.2 held held_is)) ∙ file_known c.in-Ok.ensures.found.0 c.in-Ok.file c.in-Ok.ensures.found.1 in
    let k = c.in-Err-read_nodes.ensures.refused r held (ap (λ x. Err x) same) (c.in-Ok.ensures.reads.holds ∙ held_is) in
    some_node_refused held c.args.net.now c.in-Ok.file (Refused r) known (subst (λ (ns : List Node). outcome_of (each (node_parts_of judged_unit (whole held) c.args.net.now) [] ns) ≡ Err (Refused r)) nodes k)

pub returns-in-Err-read_nodes-clause-unread : goal.returns-in-Err-read_nodes-clause-unread
returns-in-Err-read_nodes-clause-unread g c = λ file held is held_is.
    let same : c.in-Err-read_nodes.error ≡ Unread file = cc is in
    let nodes : c.deref.result.now ≡ c.in-Ok.file.nodes = c.deref.ensures.value ∙ ap (λ (f : NetworkFile). f.nodes) c.file.view_is in
    let known : network_file_of (held (network_file_name c.args.net.now)) ≡ Ok c.in-Ok.file =
    ap network_file_of (sym (c.in-Ok.ensures.found.2 held held_is)) ∙ file_known c.in-Ok.ensures.found.0 c.in-Ok.file c.in-Ok.ensures.found.1 in
    let k = c.in-Err-read_nodes.ensures.unread file held (ap (λ x. Err x) same) (c.in-Ok.ensures.reads.holds ∙ held_is) in
    let stops = subst (λ (ns : List Node). each (node_parts_of judged_unit (lacking held k.0) c.args.net.now) [] ns ≡ Err (unread k.0)) nodes k.3 in
    let named = subst (λ (ns : List Node). name_among held c.args.net.now ns k.0 ≡ Some (g.H.Shelf.read_faults c.read_nodes.new.shelf).last) nodes k.4 in
    (k.0, k.1, some_file_unread held c.args.net.now c.in-Ok.file k.0 known k.2 stops, name_is held c.args.net.now c.in-Ok.file k.0 (g.H.Shelf.read_faults c.read_nodes.new.shelf).last known named)

pub returns-in-Err-read_nodes-clause-named : goal.returns-in-Err-read_nodes-clause-named
returns-in-Err-read_nodes-clause-named g c = λ is.
    let same : c.in-Err-read_nodes.error ≡ Unread id.Main = cc is in
    absurd (c.in-Err-read_nodes.ensures.elsewhere (ap (λ x. Err x) same))

pub plan_of-requires-clause-nodes : goal.plan_of-requires-clause-nodes
plan_of-requires-clause-nodes g c =
    let nodes : c.deref.result.now ≡ c.in-Ok.file.nodes = c.deref.ensures.value ∙ ap (λ (f : NetworkFile). f.nodes) c.file.view_is in
    let units = c.in-Ok-read_nodes.ensures.found in
    few_plans (g.H.Shelf.holds c.read_main.new.shelf) c.args.net.now c.deref.result.now units.parts c.in-Ok-read_nodes.units.plans.items units.read units.are_plans
    (subst (λ (ns : List Node). length ns ≤ 32) (sym nodes) (few c.in-Ok.ensures.found.0 c.in-Ok.file c.in-Ok.ensures.found.1).0)

pub plan_of-requires-clause-buses : goal.plan_of-requires-clause-buses
plan_of-requires-clause-buses g c =
    let k = (few c.in-Ok.ensures.found.0 c.in-Ok.file c.in-Ok.ensures.found.1).1 in
    omega (arith, k)

pub returns-clause-found : goal.returns-clause-found
returns-clause-found g c = λ held held_is.
    let nodes : c.deref.result.now ≡ c.in-Ok.file.nodes = c.deref.ensures.value ∙ ap (λ (f : NetworkFile). f.nodes) c.file.view_is in
    let known : network_file_of (held (network_file_name c.args.net.now)) ≡ Ok c.in-Ok.file =
    ap network_file_of (sym (c.in-Ok.ensures.found.2 held held_is)) ∙ file_known c.in-Ok.ensures.found.0 c.in-Ok.file c.in-Ok.ensures.found.1 in
    let units = c.in-Ok-read_nodes.ensures.found in
    let read = subst (λ (ns : List Node). AreRead (g.H.Shelf.holds c.read_main.new.shelf) c.args.net.now ns units.parts) nodes units.read in
    let text = c.in-Ok.ensures.found in
    let message = units.added (framed text.0) (text.3 [] c.new-digest.ensures) in
    let digest = c.finalize.ensures (framed text.0 ++ flat_map framed_node units.parts) message in
    network_is held c.args.net.now c.in-Ok.file units.parts known (all_read (g.H.Shelf.holds c.read_main.new.shelf) held c.args.net.now c.in-Ok.file.nodes units.parts (c.in-Ok.ensures.reads.holds ∙ held_is) read)
    ∙ ap (λ n. Ok n) (rw (← (text.2 held held_is)) (same_network c.in-Ok.file text.0 units.parts c.in_ok-plan.plan c.in-Ok-read_nodes.units.plans.items (map nested_module c.in-Ok-read_nodes.units.codes.items) c.finalize.result c.in_ok-plan.ensures
    units.are_plans units.are_codes digest))

pub returns-clause-sound : goal.returns-clause-sound
returns-clause-sound g c =
    let nodes : c.deref.result.now ≡ c.in-Ok.file.nodes = c.deref.ensures.value ∙ ap (λ (f : NetworkFile). f.nodes) c.file.view_is in
    let units = c.in-Ok-read_nodes.ensures.found in
    let read = subst (λ (ns : List Node). AreRead (g.H.Shelf.holds c.read_main.new.shelf) c.args.net.now ns units.parts) nodes units.read in
    sound_is (g.H.Shelf.holds c.read_main.new.shelf) c.args.net.now c.in-Ok.ensures.found.0 c.in-Ok.file units.parts c.in_ok-plan.plan c.in-Ok-read_nodes.units.plans.items (map nested_module c.in-Ok-read_nodes.units.codes.items) c.finalize.result
    (file_known c.in-Ok.ensures.found.0 c.in-Ok.file c.in-Ok.ensures.found.1) read c.in_ok-plan.ensures units.are_plans units.are_codes
