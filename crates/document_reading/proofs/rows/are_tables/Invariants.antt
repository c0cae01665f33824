use Rattle.std.proofs.Common.{◌≡◌, drop}
use Rattle.toml.specs.View.{items_view}
use Rattle.document_specs.specs.Documents as spec
use Rattle.document_reading.proofs.rows.are_tables.Given as goal

abbrev pub invariant-loop-item : goal.invariant-loop-item
invariant-loop-item l = spec.are_tables (items_view (drop l.item-index l.items)) ≡ spec.are_tables (items_view l.items)
