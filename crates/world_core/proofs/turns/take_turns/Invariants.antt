use Rattle.std.proofs.Common.{◌≡◌, ◌≤◌, All, drop, fold, length, map}
use Rattle.log_lines.specs.Lines.{line_of}
use Rattle.world_specs.specs.Sessions.{turn_step, turns_step}
use Rattle.world_core.specs.Bare.{AreTurns, IsReady}
use Rattle.world_core.specs.OnBuses.{AreNumbered}
use Rattle.world_core.specs.SeenTurns.{seen}
use Rattle.world_core.proofs.turns.take_turns.Given as goal

-- The turns that are left lead from here to the whole, and their nodes are ready.
abbrev pub invariant-loop-turn : goal.invariant-loop-turn
invariant-loop-turn l = record {
  whole : fold (turn_step l.now) (l.buses.items, map line_of l.lines.items) (map (seen l.plans) (drop l.turn-index l.turns))
      ≡ turns_step l.now l.fn.buses.items (map (seen l.plans) l.turns);
  numbered : AreNumbered l.buses.items;
  few : length l.buses.items ≤ 4;
  ready : All (IsReady (map (seen l.plans) (drop l.turn-index l.turns))) l.buses.items;
  turns : AreTurns (map (seen l.plans) (drop l.turn-index l.turns));
}
