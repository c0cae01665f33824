use Rattle.std.proofs.Common.{◌≡◌, ◌++◌, flat_map, map, take, drop}
use Rattle.log_lines.specs.Lines.{line_of}
use Rattle.bus_specs.specs.Bus.{Bus}
use Rattle.bus_specs.specs.Inbox.{take_inbox}
use Rattle.world_core.proofs.turns.take_inboxes.Given as goal

-- The buses so far are changed, and the others will be.
abbrev pub invariant-loop-medium : goal.invariant-loop-medium
invariant-loop-medium l = record {
  buses : take l.medium-index l.medium-items ++ map (λ (b : Bus). (take_inbox b l.now l.node).0) (drop l.medium-index l.medium-items)
      ≡ map (λ (b : Bus). (take_inbox b l.now l.node).0) l.fn.buses.items;
  lines : map line_of l.lines.items ++ flat_map (λ (b : Bus). (take_inbox b l.now l.node).1) (drop l.medium-index l.medium-items)
      ≡ map line_of l.fn.lines.items ++ flat_map (λ (b : Bus). (take_inbox b l.now l.node).1) l.fn.buses.items;
}
