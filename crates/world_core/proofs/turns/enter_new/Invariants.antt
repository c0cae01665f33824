use Rattle.std.proofs.Common.{◌≡◌, drop}
use Rattle.world_core.specs.SeenTurns.{entered}
use Rattle.world_core.proofs.turns.enter_new.Given as goal

abbrev pub invariant-loop-turn : goal.invariant-loop-turn
invariant-loop-turn l = entered l.buses.items (drop l.turn-index l.turns) ≡ entered l.fn.buses.items l.turns
