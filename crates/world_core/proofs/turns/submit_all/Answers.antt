use Rattle.std.proofs.Common.{◌<◌, length, map, ap, refl, sym, ◌∙◌, arith}
use Rattle.log_lines.specs.Lines.{line_of}
use Rattle.bus_specs.specs.Bus.{Bus}
use Rattle.world_specs.specs.Sessions.{emission_step}
use Rattle.world_core.specs.Bare.{IsReadyFor, emitted_step}
use Rattle.world_core.specs.SeenTurns.{seen_turn}
use Rattle.world_core.proofs.TurnSteps.{emitted-bus, emitted-lines}
use Rattle.world_core.proofs.Walking.{walked-all, walked-buses, walked-lines, walked-numbers, walked-one}
use Rattle.world_core.proofs.turns.submit_all.Goals as goal

pub submit_on-requires-clause-ready : goal.submit_on-requires-clause-ready
submit_on-requires-clause-ready c =
    let inside : c.loop-bus.bus < length c.loop-bus.medium-items = omega arith in
    let x = seen_turn c.args.names.now c.args.turn.now in
    let h = walked-one c.loop-bus.medium-items c.loop-bus.bus c.medium-item.result c.medium-item.result inside (IsReadyFor x) c.medium-item.is c.loop-bus.invariant.ready in
    rw (← c.medium-item.is) h

pub loop-bus-preserved : goal.loop-bus-preserved
loop-bus-preserved c =
    let bs = c.loop-bus.medium-items in
    let i = c.loop-bus.bus in
    let b = c.medium-item.result in
    let after = c.submit_on.new.medium in
    let x = seen_turn c.args.names.now c.args.turn.now in
    let before = map line_of c.loop-bus.lines.items in
    let inside : c.loop-bus.bus < length c.loop-bus.medium-items = omega arith in
    record {
      buses = walked-buses bs i b after inside (λ (y : Bus). (emission_step c.args.now x y).0) _ c.medium-item.is
          (c.in_ok-submit_on.ensures.bus ∙ ap (λ (y : Bus). (emitted_step c.args.now x (y, before)).0) (sym c.medium-item.is) ∙ emitted-bus c.args.now x b before) c.loop-bus.invariant.buses;
      lines = walked-lines bs i b after inside (λ (y : Bus). (emission_step c.args.now x y).1) before (map line_of c.submit_on.new.lines.items)
          (emission_step c.args.now x b).1 _ c.medium-item.is refl
          (c.in_ok-submit_on.ensures.lines ∙ ap (λ (y : Bus). (emitted_step c.args.now x (y, before)).1) (sym c.medium-item.is) ∙ emitted-lines c.args.now x b before) c.loop-bus.invariant.lines;
      numbers = walked-numbers bs i b after inside c.loop-bus.invariant.numbers;
      ready = walked-all bs i b after inside (IsReadyFor x) c.loop-bus.invariant.ready;
    }
