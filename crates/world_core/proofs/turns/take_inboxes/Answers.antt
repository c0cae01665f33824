use Rattle.std.proofs.Common.{◌<◌, length, map, ap, sym, ◌∙◌, arith}
use Rattle.std.proofs.lemmas.List.{map-append}
use Rattle.log_lines.specs.Lines.{line_of}
use Rattle.bus_specs.specs.Bus.{Bus}
use Rattle.bus_specs.specs.Inbox.{take_inbox}
use Rattle.world_core.proofs.Walking.{walked-buses, walked-lines}
use Rattle.world_core.proofs.turns.take_inboxes.Goals as goal

pub loop-medium-preserved : goal.loop-medium-preserved
loop-medium-preserved c =
    let bs = c.loop-medium.medium-items in
    let i = c.loop-medium.medium-index in
    let b = c.medium-item.result in
    let after = c.take_inbox.new.self in
    let inside : c.loop-medium.medium-index < length c.loop-medium.medium-items = omega arith in
    record {
      buses = walked-buses bs i b after inside (λ (x : Bus). (take_inbox x c.args.now c.args.node).0) _ c.medium-item.is (c.in_ok-told.ensures.state ∙ ap (λ (x : Bus). (take_inbox x c.args.now c.args.node).0) (sym c.medium-item.is)) c.loop-medium.invariant.buses;
      lines = walked-lines bs i b after inside (λ (x : Bus). (take_inbox x c.args.now c.args.node).1) (map line_of c.loop-medium.lines.items) (map line_of c.push_lines.new.lines.items)
          (map line_of c.into_vec.result.items) _ c.medium-item.is (c.into_vec.ensures ∙ c.in_ok-told.ensures.lines ∙ ap (λ (x : Bus). (take_inbox x c.args.now c.args.node).1) (sym c.medium-item.is))
          (ap (map line_of) c.in_ok-push_lines.ensures ∙ map-append line_of c.loop-medium.lines.items c.into_vec.result.items) c.loop-medium.invariant.lines;
    }
