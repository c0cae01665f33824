use Rattle.std.proofs.Common.{◌≡◌, map}
use Rattle.std.specs.Vec.Iter.{into_iter_items}
use Rattle.log_lines.specs.Lines.{line_of}
use Rattle.bus_ops.specs.Views.{items_of}
use Rattle.world_core.specs.Asks.{MaySubmit, submitted}
use Rattle.world_core.proofs.turns.submit_items.Given as goal

-- The items that are left lead from here to the whole.
abbrev pub invariant-loop-item : goal.invariant-loop-item
invariant-loop-item l = record {
  ready : MaySubmit l.node (items_of (into_iter_items l.item-iterator)) l.medium;
  whole : submitted l.now l.node (l.medium, map line_of l.lines.items) (items_of (into_iter_items l.item-iterator))
      ≡ submitted l.now l.node (l.fn.medium, map line_of l.fn.lines.items) (items_of l.fn.items.items);
}
