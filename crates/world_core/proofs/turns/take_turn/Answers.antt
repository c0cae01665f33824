use Rattle.std.proofs.Common.{All, subst, sym}
use Rattle.world_core.specs.Bare.{IsReadyFor}
use Rattle.world_core.specs.OnBuses.{AreNumbered}
use Rattle.world_core.specs.SeenTurns.{seen_turn}
use Rattle.world_core.proofs.Readying.{all-taken, taken-numbered}
use Rattle.world_core.proofs.turns.take_turn.Goals as goal

pub submit_all-requires-clause-numbered : goal.submit_all-requires-clause-numbered
submit_all-requires-clause-numbered c =
    subst AreNumbered (sym c.in_ok-take_inboxes.ensures.buses) (taken-numbered c.args.now c.args.turn.now.node c.args.buses.now.items c.requires.numbered)

pub submit_all-requires-clause-ready : goal.submit_all-requires-clause-ready
submit_all-requires-clause-ready c =
    let x = seen_turn c.args.names.now c.args.turn.now in
    subst (All (IsReadyFor x)) (sym c.in_ok-take_inboxes.ensures.buses) (all-taken c.args.now c.args.turn.now.node x c.args.buses.now.items c.requires.ready)
