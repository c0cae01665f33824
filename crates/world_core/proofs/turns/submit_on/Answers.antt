use Rattle.std.proofs.Common.{◌≡◌, ◌<◌, All, length, map, ap, ◌∙◌, sym, subst, arith}
use Rattle.log_lines.specs.Lines.{line_of}
use Rattle.bus_ops.specs.ItemsIn.{items_in}
use Rattle.operation_specs.specs.Reading.{IsWhole}
use Rattle.session_specs.specs.Outcome.{Emission, SessionOut}
use Rattle.world_core.specs.Asks.{MayAsk, submitted}
use Rattle.world_core.proofs.Readying.{named, whole-in}
use Rattle.world_core.proofs.TurnSteps.{bytes-at, emit-asks, emit-elsewhere, emit-here, off-at, on-at}
use Rattle.world_core.proofs.turns.submit_on.Goals as goal
use Rattle.world_core.proofs.turns.submit_on.Goals.{then-names_bus+in_ok-items+in_ok-submit_items, else-names_bus}

pub submit_items-requires-clause-ready : goal.submit_items-requires-clause-ready
submit_items-requires-clause-ready c =
    let same : c.as_slice-emission-items.result.now ≡ c.args.turn.now.out.emitted = c.as_slice-emission-items.ensures ∙ ap (λ (o : SessionOut). o.emitted) c.out.view_is in
    let inside : c.loop-emission.emission-index < length c.as_slice-emission-items.result.now = omega arith in
    let bytes = bytes-at c.as_slice-emission-items.result.now c.args.turn.now.out.emitted c.loop-emission.emission-index c.emission-item.result same c.requires.bytes inside c.emission-item.is in
    let items = c.into_vec.ensures ∙ c.in_ok-items.ensures.items ∙ ap items_in (c.as_slice.ensures ∙ ap (λ (e : Emission). e.bytes) c.emission.view_is) in
    record {
      asks = c.loop-emission.invariant.asks (named c.args.names.now c.emission.inside.terminal c.args.bus (sym c.if-names_bus.ensures));
      whole = subst (All IsWhole) (sym items) (whole-in c.emission-item.result.bytes bytes);
    }

pub loop-emission-preserved : goal.loop-emission-preserved
loop-emission-preserved c =
    let es = c.as_slice-emission-items.result.now in
    let i = c.loop-emission.emission-index in
    let e = c.emission-item.result in
    let node = c.args.turn.now.node in
    let terminal = ap (λ (x : Emission). x.terminal) c.emission.view_is in
    let same : c.as_slice-emission-items.result.now ≡ c.args.turn.now.out.emitted = c.as_slice-emission-items.ensures ∙ ap (λ (o : SessionOut). o.emitted) c.out.view_is in
    let inside : c.loop-emission.emission-index < length c.as_slice-emission-items.result.now = omega arith in
    let bytes = bytes-at c.as_slice-emission-items.result.now c.args.turn.now.out.emitted c.loop-emission.emission-index c.emission-item.result same c.requires.bytes inside c.emission-item.is in
    elim c.if-names_bus.branch [
      | then-names_bus+in_ok-items+in_ok-submit_items w ↦
          let items = w.into_vec.ensures ∙ w.in_ok-items.ensures.items ∙ ap items_in (w.as_slice.ensures ∙ ap (λ (x : Emission). x.bytes) c.emission.view_is) in
          let bus = w.medium-is ∙ w.in_ok-submit_items.ensures.bus ∙ ap (λ is. (submitted c.args.now node (c.loop-emission.medium, map line_of c.loop-emission.lines.items) is).0) items in
          let lines = ap (λ v. map line_of v.items) w.lines-is ∙ w.in_ok-submit_items.ensures.lines ∙ ap (λ is. (submitted c.args.now node (c.loop-emission.medium, map line_of c.loop-emission.lines.items) is).1) items in
          record {
            asks = λ n. emit-asks c.args.now node e.bytes c.loop-emission.medium c.if-names_bus.medium (map line_of c.loop-emission.lines.items) bytes bus (c.loop-emission.invariant.asks n);
            whole = emit-here c.args.now node c.args.names.now c.args.bus es i e c.loop-emission.medium c.if-names_bus.medium (map line_of c.loop-emission.lines.items) (map line_of c.if-names_bus.lines.items) _
                inside c.emission-item.is (on-at c.args.names.now c.args.bus c.emission.inside.terminal e.terminal terminal (sym w.if-names_bus.ensures)) bus lines c.loop-emission.invariant.whole;
          }
      | else-names_bus w ↦ record {
        asks = λ n. subst (MayAsk node) (sym w.medium-is) (c.loop-emission.invariant.asks n);
        whole = rw (w.medium-is, w.lines-is) (emit-elsewhere c.args.now node c.args.names.now c.args.bus es i e (c.loop-emission.medium, map line_of c.loop-emission.lines.items) _
            inside c.emission-item.is (off-at c.args.names.now c.args.bus c.emission.inside.terminal e.terminal terminal (sym w.if-names_bus.ensures)) c.loop-emission.invariant.whole);
      }
    ]
