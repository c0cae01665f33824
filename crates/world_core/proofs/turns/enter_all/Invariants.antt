use Rattle.std.proofs.Common.{◌≡◌, ◌++◌, map, take, drop}
use Rattle.bus_specs.specs.Bus.{Bus}
use Rattle.bus_specs.specs.Inbox.{enter}
use Rattle.world_core.proofs.turns.enter_all.Given as goal

-- The buses so far are changed, and the others will be.
abbrev pub invariant-loop-medium : goal.invariant-loop-medium
invariant-loop-medium l =
    take l.medium-index l.medium-items ++ map (λ (b : Bus). enter b l.node) (drop l.medium-index l.medium-items)
    ≡ map (λ (b : Bus). enter b l.node) l.fn.buses.items
