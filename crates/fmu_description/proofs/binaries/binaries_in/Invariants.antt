use Rattle.std.proofs.Common.{◌≡◌, true, drop, []}
use Rattle.toml.specs.View.{items_view}
use Rattle.document_specs.specs.Checks.{each}
use Rattle.document_specs.specs.Documents.{are_tables, tables_of}
use Rattle.description_specs.specs.Binaries.{binary_of}
use Rattle.fmu_description.proofs.binaries.binaries_in.Given as goal

abbrev pub invariant-loop-value : goal.invariant-loop-value
invariant-loop-value l =
    record {
      tables : are_tables (items_view (drop l.value-index l.rows)) ≡ true;
      rest : each (binary_of l.clocks) l.binaries.items (tables_of (items_view (drop l.value-index l.rows))) ≡ each (binary_of l.clocks) [] (tables_of (items_view l.rows));
    }
