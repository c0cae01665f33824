use Rattle.std.proofs.Common.{◌≡◌, ◌∷◌}
use Rattle.log_lines.specs.Lines.{line_of}
use Rattle.play_run.proofs.Submitting.{submit-step, takes-step, behind-step}
use Rattle.play_run.proofs.moment.submit_at.Goals as goal

pub loop-action-preserved : goal.loop-action-preserved
loop-action-preserved c =
    let i = c.loop-action.invariant in
    let a = c.in-Some.action in
    let rest = c.take_at.new.ahead.items in
    let front : c.loop-action.ahead.items ≡ a ∷ rest = c.in-Some.ensures.items in
    record {
      takes = takes-step c.args.now c.node-node.result _ a _ rest c.loop-action.medium _ front c.in-Some.ensures.moment c.node-node.ensures
          c.into_item.ensures c.in_ok-line.ensures.state i.takes;
      whole = submit-step line_of c.args.now c.node-node.result _ a _ rest c.loop-action.medium _ _ _ c.in_ok-line.line _ front
          c.in-Some.ensures.moment c.node-node.ensures c.into_item.ensures c.in_ok-line.ensures.state c.in_ok-line.ensures.line c.in_ok-push.ensures.items i.whole;
      behind = behind-step c.args.now a _ rest _ front c.in-Some.ensures.moment i.behind;
    }
