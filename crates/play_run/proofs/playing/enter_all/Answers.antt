use Rattle.std.proofs.Common.{rules, ◌≡◌, true, arith, ◌∙◌, sym, ap}
use Rattle.std.specs.List.{range_with_len}
use Rattle.bus_specs.specs.Bus.{member_is}
use Rattle.std.proofs.lemmas.List.FromFn.{length-range_with_len, get_or-range_with_len}
use Rattle.play_run.proofs.Submitting.{all-members, enter-step, zero-plus}
use Rattle.play_run.proofs.playing.enter_all.Goals as goal

pub loop-node-preserved : goal.loop-node-preserved
loop-node-preserved c = record {
  members = rw c.enter.ensures (all-members c.loop-node.medium c.loop-node.node (range_with_len 0 c.args.nodes) c.loop-node.invariant.members);
  entered = enter-step c.args.medium.now c.loop-node.medium c.enter.new.self c.loop-node.node c.enter.ensures c.loop-node.invariant.entered;
}
