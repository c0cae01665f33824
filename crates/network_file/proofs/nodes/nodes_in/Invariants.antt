use Rattle.std.proofs.Common.{◌≡◌, true, drop, [], length}
use Rattle.toml.specs.View.{items_view}
use Rattle.document_specs.specs.Checks.{each}
use Rattle.document_specs.specs.Documents.{are_tables, tables_of}
use Rattle.network_specs.specs.Nodes.{node_of}
use Rattle.network_file.proofs.nodes.nodes_in.Given as goal

abbrev pub invariant-loop-value : goal.invariant-loop-value
invariant-loop-value l =
    record {
      tables : are_tables (items_view (drop l.value-index l.rows)) ≡ true;
      count : length l.nodes.items ≡ l.value-index;
      rest : each (node_of l.buses) l.nodes.items (tables_of (items_view (drop l.value-index l.rows))) ≡ each (node_of l.buses) [] (tables_of (items_view l.rows));
    }
