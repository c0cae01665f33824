use Rattle.std.proofs.Common.{◌≡◌, true, drop, []}
use Rattle.toml.specs.View.{items_view}
use Rattle.document_specs.specs.Checks.{each}
use Rattle.document_specs.specs.Documents.{are_tables, tables_of}
use Rattle.network_specs.specs.Scripts.{entry_of}
use Rattle.network_file.proofs.script.script_in.Given as goal

abbrev pub invariant-loop-value : goal.invariant-loop-value
invariant-loop-value l =
    record {
      tables : are_tables (items_view (drop l.value-index l.rows)) ≡ true;
      rest : each (entry_of l.buses l.nodes) l.script.items (tables_of (items_view (drop l.value-index l.rows))) ≡ each (entry_of l.buses l.nodes) [] (tables_of (items_view l.rows));
    }
