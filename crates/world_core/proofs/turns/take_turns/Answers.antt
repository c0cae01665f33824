use Rattle.std.proofs.Common.{◌<◌, ◌+◌, All, drop, fold, length, map, ap, ◌∙◌, sym, subst, arith}
use Rattle.std.proofs.lemmas.List.{length-map}
use Rattle.log_lines.specs.Lines.{line_of}
use Rattle.world_specs.specs.Plan.{NodePlan}
use Rattle.world_specs.specs.Sessions.{turn_step, with_entered}
use Rattle.world_core.specs.Bare.{AreTurns, IsReady, IsReadyFor}
use Rattle.world_core.specs.OnBuses.{AreNumbered}
use Rattle.world_core.specs.SeenTurns.{seen}
use Rattle.world_core.proofs.Readying.{all-entered, all-ready-for, all-turned, entered-map, entered-numbered, turn-map, turn-numbered}
use Rattle.world_core.proofs.TurnSeen.{entered-seen, seen-as, seen-next, turns-on}
use Rattle.world_core.proofs.turns.take_turns.Goals as goal

pub loop-turn-init : goal.loop-turn-init
loop-turn-init c =
    let xs = map (seen c.args.plans.now) c.args.turns.now in
    let bs = c.args.buses.now.items in
    let entering = c.enter_new.ensures ∙ entered-seen c.args.plans.now c.args.turns.now bs in
    let mapped = entering ∙ entered-map xs bs in
    record {
      whole = ap (λ cs. fold (turn_step c.args.now) (cs, map line_of c.new-lines.result.items) xs) entering
          ∙ ap (λ ls. fold (turn_step c.args.now) (fold with_entered bs xs, map line_of ls) xs) c.new-lines.ensures.items;
      numbered = subst AreNumbered (sym mapped) (entered-numbered xs bs c.requires.numbered);
      few = rw (mapped, length-map) c.requires.few;
      ready = subst (All (IsReady xs)) (sym mapped) (all-entered xs bs c.requires.expected);
      turns = c.requires.turns;
    }

pub take_turn-requires-clause-ready : goal.take_turn-requires-clause-ready
take_turn-requires-clause-ready c =
    let i = c.loop-turn.turn-index in
    let x = c.turn-item.result in
    let inside : c.loop-turn.turn-index < length c.args.turns.now = omega arith in
    let names = c.as_slice.ensures ∙ ap (λ (n : NodePlan). n.buses) c.plan.view_is in
    let next = seen-next c.args.plans.now c.args.turns.now i x inside c.turn-item.is in
    let there = c.requires.there i x inside in
    let as-seen = seen-as c.args.plans.now x c.index-plans-turn.result c.as_slice.result.now (rw (← c.turn-item.is) at there) c.index-plans-turn.is names in
    subst (λ y. All (IsReadyFor y) c.loop-turn.buses.items) as-seen
    (all-ready-for (seen c.args.plans.now x) (map (seen c.args.plans.now) (drop (c.loop-turn.turn-index + 1) c.args.turns.now)) c.loop-turn.buses.items
    (subst (λ ys. All (IsReady ys) c.loop-turn.buses.items) next c.loop-turn.invariant.ready))

pub loop-turn-preserved : goal.loop-turn-preserved
loop-turn-preserved c =
    let i = c.loop-turn.turn-index in
    let t = c.args.now in
    let x = c.turn-item.result in
    let inside : c.loop-turn.turn-index < length c.args.turns.now = omega arith in
    let names = c.as_slice.ensures ∙ ap (λ (n : NodePlan). n.buses) c.plan.view_is in
    let next = seen-next c.args.plans.now c.args.turns.now i x inside c.turn-item.is in
    let there = c.requires.there i x inside in
    let as-seen = seen-as c.args.plans.now x c.index-plans-turn.result c.as_slice.result.now (rw (← c.turn-item.is) at there) c.index-plans-turn.is names in
    let y = seen c.args.plans.now x in
    let ys = map (seen c.args.plans.now) (drop (c.loop-turn.turn-index + 1) c.args.turns.now) in
    let before = map line_of c.loop-turn.lines.items in
    let bs = c.loop-turn.buses.items in
    let buses = c.in_ok-take_turn.ensures.buses ∙ ap (λ z. (turn_step t (bs, before) z).0) (sym as-seen) in
    let lines = c.in_ok-take_turn.ensures.lines ∙ ap (λ z. (turn_step t (bs, before) z).1) (sym as-seen) in
    let mapped = buses ∙ turn-map t (bs, before) y in
    let turns = subst AreTurns next c.loop-turn.invariant.turns in
    record {
      whole = turns-on t (bs, before) c.take_turn.new.buses.items (map line_of c.take_turn.new.lines.items) y _ ys _ next buses lines c.loop-turn.invariant.whole;
      numbered = subst AreNumbered (sym mapped) (turn-numbered t y bs c.loop-turn.invariant.numbered);
      few = rw (mapped, length-map) c.loop-turn.invariant.few;
      ready = subst (All (IsReady ys)) (sym mapped) (all-turned t y ys bs turns (subst (λ zs. All (IsReady zs) bs) next c.loop-turn.invariant.ready));
      turns = turns.2;
    }
