use Rattle.std.proofs.Common.{◌≡◌, true, drop, flat_map, map}
use Rattle.log_lines.specs.Lines.{line_of}
use Rattle.bus_specs.specs.Bus.{among}
use Rattle.world_specs.specs.Sessions.{items_at}
use Rattle.world_core.specs.Asks.{MayAsk, submitted}
use Rattle.world_core.proofs.turns.submit_on.Given as goal

-- What is left of the emissions leads from here to the whole.
abbrev pub invariant-loop-emission : goal.invariant-loop-emission
invariant-loop-emission l = record {
  asks : among l.names l.bus ≡ true → MayAsk l.turn.node l.medium;
  whole : submitted l.now l.turn.node (l.medium, map line_of l.lines.items) (flat_map (items_at l.names l.bus) (drop l.emission-index l.emission-items))
      ≡ submitted l.now l.turn.node (l.fn.medium, map line_of l.fn.lines.items) (flat_map (items_at l.names l.bus) l.turn.out.emitted);
}
