-- The errors of an accepted network file, and the file as a whole.
use Rattle.std.proofs.Common.{◌≡◌, ℕ, ◌^◌, ◌≤◌, Bool, true, false, nat_le, List, [], length, get_or, Option, Some, None, Ok, IfSome, subst, arith, codes}
use Rattle.std.specs.Prelude.{option_and_then, option_map, if◌then◌else◌, position}
use Rattle.std.specs.List.{AllByRecursion}
use Rattle.std.proofs.lemmas.Bool.{and_parts}
use Rattle.std.proofs.lemmas.Option.{slice_get-get_or}
use Rattle.std.proofs.lemmas.List.Quantifiers.{position-Some}
use Rattle.toml.specs.Data.{Data, Members, no_members, member, get_member}
use Rattle.document_specs.specs.Checks.{needs_that, each}
use Rattle.document_specs.specs.Documents.{text, number, optional_tables, absent_or, tables_in, document}
use Rattle.network_specs.specs.declared.field.NetworkField.TheVariants as field
use Rattle.network_specs.specs.Settings.{refusal, number_or, settings_of}
use Rattle.network_specs.specs.Buses.{Bus, buses_of}
use Rattle.network_specs.specs.Nodes.{Node, bus_named, is_node, is_sender, stands_on, nodes_of}
use Rattle.network_specs.specs.Scripts.{ScriptEntry, is_node_on, detector_of, detector, entry_at, entry_of, script_of}
use Rattle.network_specs.specs.NetworkFiles.{NetworkFile, network_file_in, network_file_of, most_bytes}
use Rattle.description_laws.proofs.Steps.{needs_ok, some_of, number_at_ok, tables_ok, bind_ok, each_keeps, each_length, all_more}
use Rattle.network_laws.specs.Ranges.{IsOn, IsScriptEntry, IsInRange}
use Rattle.network_laws.proofs.InRange.{number_or_ok, mapped_ok, settings_ranged, buses_ranged}
use Rattle.network_laws.proofs.NodesInRange.{bus_is_there, nodes_ranged}

abbrev nobody : Node
nobody = record { name = []; fmu = []; attachments = [] }

found_on : (nodes : List Node) (bus place : ℕ) (name : List ℕ) → position (is_node_on bus name) nodes ≡ Some place → IsOn nodes bus place
found_on nodes bus place name h =
    let k = position-Some (is_node_on bus name) nodes place nobody h in
    record {
      node = get_or nodes place nobody;
      there = slice_get-get_or nodes place nobody k.0;
      stands = (and_parts (is_node name (get_or nodes place nobody)) (stands_on (get_or nodes place nobody).attachments bus) k.1).1;
    }

detected : (nodes : List Node) (bus : ℕ) (name : List ℕ) (by : Option ℕ) → detector_of nodes bus name ≡ Some by → IfSome by (IsOn nodes bus)
detected nodes bus name by h = by_word (is_sender name) h
  where
    by_word : (b : Bool) → (if b then Some None else option_map Some (position (is_node_on bus name) nodes)) ≡ Some by → IfSome by (IsOn nodes bus)
    by_word true k = let e : None ≡ by = cc k in subst (λ p. IfSome p (IsOn nodes bus)) e tt
    by_word false k =
        let place = mapped_ok Some (position (is_node_on bus name) nodes) by k in
        subst (λ p. IfSome p (IsOn nodes bus)) place.2 (found_on nodes bus place.0 name place.1)

entry_ranged : (buses : List Bus) (nodes : List Node) (place : ℕ) (t : Members) (e : ScriptEntry) → entry_at place buses nodes t ≡ Ok e → IsScriptEntry (length buses) nodes e
unfolding entry_at
entry_ranged buses nodes place t e h =
    let bus = needs_ok (refusal field.ErrorBus place) (option_and_then (bus_named buses) (get_member (codes "bus") t)) _ e h in
    let first = needs_ok (refusal field.ErrorAttempt place) (number 1 (2 ^ 32) (codes "attempt") t) _ e bus.2 in
    let count = needs_ok (refusal field.ErrorCount place) (number_or 1 1 (2 ^ 32) (codes "count") t) _ e first.2 in
    let kind = needs_ok (refusal field.ErrorKind place) (number 1 4 (codes "kind") t) _ e count.2 in
    let by = needs_ok (refusal field.ErrorBy place) (detector nodes bus.0 t) _ e kind.2 in
    let bit = needs_ok (refusal field.ErrorBit place) (number 0 1023 (codes "bit") t) _ e by.2 in
    let same : record { bus = bus.0; entry = record { first = first.0; count = count.0; kind = kind.0; by = by.0; bit = bit.0 } } ≡ e = cc bit.2 in
    let value = some_of (bus_named buses) (get_member (codes "bus") t) bus.0 bus.1 in
    let name = some_of (detector_of nodes bus.0) (text (codes "by") t) by.0 by.1 in
    subst (IsScriptEntry (length buses) nodes) same (record {
      bus = bus_is_there buses value.0 bus.0 value.2;
      first = number_at_ok 1 (2 ^ 32) (codes "attempt") t first.0 first.1;
      count = number_or_ok 1 1 (2 ^ 32) (codes "count") t count.0 (omega arith) (omega arith) count.1;
      kind = number_at_ok 1 4 (codes "kind") t kind.0 kind.1;
      by = detected nodes bus.0 name.0 by.0 name.2;
      bit = (number_at_ok 0 1023 (codes "bit") t bit.0 bit.1).1;
    })

-- at most so many rows, where the array may be left out
few : (high : ℕ) (key : List ℕ) (t : Members) (rows : List Members) → optional_tables high key t ≡ Some rows → length rows ≤ high
few high key t rows h = by_value (get_member key t) h
  where
    by_value : (o : Option Data) → absent_or [] (tables_in 0 high) o ≡ Some rows → length rows ≤ high
    by_value None k = let e : [] ≡ rows = cc k in subst (λ (xs : List Members). length xs ≤ high) e (omega arith)
    by_value (Some d) k = (tables_ok 0 high [] (member [] d no_members) rows k).1

script_ranged : (buses : List Bus) (nodes : List Node) (t : Members) (es : List ScriptEntry) → script_of buses nodes t ≡ Ok es → (length es ≤ 1024) × AllByRecursion (IsScriptEntry (length buses) nodes) es
unfolding script_of
script_ranged buses nodes t es h =
    let rows = needs_ok (refusal field.Error 0) (optional_tables 1024 (codes "error") t) (each (entry_of buses nodes) []) es h in
    let same = each_length (entry_of buses nodes) [] rows.0 es rows.2 in (
      omega (arith, few 1024 (codes "error") t rows.0 rows.1, same),
      each_keeps (AllByRecursion (IsScriptEntry (length buses) nodes)) (entry_of buses nodes)
          (λ before row e all is. all_more (IsScriptEntry (length buses) nodes) before e all (entry_ranged buses nodes (length before) row e is)) [] rows.0 es tt rows.2,
    )

document_ranged : (t : Members) (f : NetworkFile) → network_file_in t ≡ Ok f → IsInRange f
unfolding network_file_in
document_ranged t f h =
    let settings = bind_ok (settings_of t) _ f h in
    let buses = bind_ok (buses_of settings.0.resolution t) _ f settings.2 in
    let nodes = bind_ok (nodes_of buses.0 t) _ f buses.2 in
    let script = bind_ok (script_of buses.0 nodes.0 t) _ f nodes.2 in
    let same : record { settings = settings.0; buses = buses.0; nodes = nodes.0; script = script.0 } ≡ f = cc script.2 in
    let numbers = settings_ranged t settings.0 settings.1 in
    let of_buses = buses_ranged settings.0.resolution t buses.0 buses.1 in
    let of_nodes = nodes_ranged buses.0 t nodes.0 nodes.1 in
    let of_script = script_ranged buses.0 nodes.0 t script.0 script.1 in
    subst IsInRange same (record {
      resolution = numbers.resolution;
      stop = numbers.stop;
      events = numbers.events;
      fuel = numbers.fuel;
      some_buses = of_buses.0;
      buses = of_buses.1;
      some_nodes = of_nodes.0;
      nodes = of_nodes.1;
      few_errors = of_script.0;
      errors = of_script.1;
    })

pub file_ranged : (bytes : List ℕ) (f : NetworkFile) → network_file_of bytes ≡ Ok f → IsInRange f
unfolding network_file_of
file_ranged bytes f h =
    let size = bind_ok (needs_that (refusal field.Size most_bytes) (nat_le (length bytes) most_bytes)) _ f h in
    let t = needs_ok (refusal field.Toml 0) (document bytes) network_file_in f size.2 in
    document_ranged t.0 f t.2
