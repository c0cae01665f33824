use Rattle.std.proofs.Common.{◌≡◌, true, drop, [], length}
use Rattle.toml.specs.View.{items_view}
use Rattle.document_specs.specs.Checks.{each}
use Rattle.document_specs.specs.Documents.{are_tables, tables_of}
use Rattle.network_specs.specs.Buses.{bus_of}
use Rattle.network_file.proofs.buses.buses_in.Given as goal

abbrev pub invariant-loop-value : goal.invariant-loop-value
invariant-loop-value l =
    record {
      tables : are_tables (items_view (drop l.value-index l.rows)) ≡ true;
      count : length l.buses.items ≡ l.value-index;
      rest : each (bus_of l.resolution) l.buses.items (tables_of (items_view (drop l.value-index l.rows))) ≡ each (bus_of l.resolution) [] (tables_of (items_view l.rows));
    }
