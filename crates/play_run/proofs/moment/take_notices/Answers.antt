use Rattle.std.proofs.Common.{rules, ◌≡◌, ap, ◌∙◌, sym}
use Rattle.log_lines.specs.Lines.{line_of}
use Rattle.play_run.proofs.Submitting.{taken-step, members-kept}
use Rattle.play_run.proofs.moment.take_notices.Goals as goal

pub loop-node-preserved : goal.loop-node-preserved
loop-node-preserved c = record {
  members = members-kept c.loop-node.medium _ c.args.now _ c.args.nodes.now c.in_ok-told.ensures.state c.loop-node.invariant.members;
  taken = taken-step line_of c.args.now _ c.args.nodes.now c.loop-node.node-index _ c.loop-node.medium _ c.loop-node.lines.items _ c.into_vec.result.items
      c.loop-node-test.true c.in_ok-told.ensures.state (c.into_vec.ensures ∙ c.in_ok-told.ensures.lines) c.in_ok-push_lines.ensures c.loop-node.invariant.taken;
}
