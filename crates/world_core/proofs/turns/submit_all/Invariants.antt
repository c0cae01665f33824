use Rattle.std.proofs.Common.{◌≡◌, ◌++◌, All, flat_map, map, take, drop}
use Rattle.log_lines.specs.Lines.{line_of}
use Rattle.bus_specs.specs.Bus.{Bus}
use Rattle.world_specs.specs.Plan.{AllFrom}
use Rattle.world_specs.specs.Sessions.{emission_step}
use Rattle.world_core.specs.Bare.{IsReadyFor}
use Rattle.world_core.specs.OnBuses.{HasNumber}
use Rattle.world_core.specs.SeenTurns.{seen_turn}
use Rattle.world_core.proofs.turns.submit_all.Given as goal

-- The buses so far are changed, and the others will be.
abbrev pub invariant-loop-bus : goal.invariant-loop-bus
invariant-loop-bus l = record {
  buses : take l.bus l.medium-items ++ map (λ (b : Bus). (emission_step l.now (seen_turn l.names l.turn) b).0) (drop l.bus l.medium-items)
      ≡ map (λ (b : Bus). (emission_step l.now (seen_turn l.names l.turn) b).0) l.fn.buses.items;
  lines : map line_of l.lines.items ++ flat_map (λ (b : Bus). (emission_step l.now (seen_turn l.names l.turn) b).1) (drop l.bus l.medium-items)
      ≡ map line_of l.fn.lines.items ++ flat_map (λ (b : Bus). (emission_step l.now (seen_turn l.names l.turn) b).1) l.fn.buses.items;
  numbers : AllFrom l.bus HasNumber (drop l.bus l.medium-items);
  ready : All (IsReadyFor (seen_turn l.names l.turn)) (drop l.bus l.medium-items);
}
