use Rattle.pending_frames.proofs.Kept.{kept_new, below_new, counts_new, value_new}
use Rattle.pending_frames.proofs.frames.PendingFrames.new.Goals as goal

pub invariant_of-result : goal.invariant_of-result
invariant_of-result c =
    rw (c.in_ok-lists.ensures, c.in_ok-counts.ensures) (kept_new c.args.nodes, below_new c.args.nodes, counts_new c.args.nodes)

pub returns : goal.returns
returns c = rw c.in_ok-lists.ensures (value_new c.args.nodes)
