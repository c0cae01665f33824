use Rattle.std.proofs.Common.{◌∷◌, [], map, ap, ◌∙◌}
use Rattle.std.proofs.lemmas.List.{map-append}
use Rattle.log_lines.specs.Lines.{line_of}
use Rattle.world_core.proofs.TurnSteps.{submit-ready, submit-whole}
use Rattle.world_core.proofs.turns.submit_items.Goals as goal

pub loop-item-preserved : goal.loop-item-preserved
loop-item-preserved c =
    let e = c.in-Some.ensures.steps.0 in
    record {
      ready = submit-ready c.args.now c.args.node _ c.in-Some.item _ c.loop-item.medium c.submit.new.self e c.in_ok-line.ensures.state c.loop-item.invariant.ready;
      whole = submit-whole c.args.now c.args.node _ c.in-Some.item _ c.loop-item.medium c.submit.new.self (map line_of c.loop-item.lines.items) (map line_of c.push.new.self.items)
          (line_of c.in_ok-line.line) _ e c.in_ok-line.ensures.state c.in_ok-line.ensures.line
          (ap (map line_of) c.in_ok-push.ensures.items ∙ map-append line_of c.loop-item.lines.items (c.in_ok-line.line ∷ [])) c.loop-item.invariant.whole;
    }
