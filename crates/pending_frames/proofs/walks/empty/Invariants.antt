use Rattle.std.proofs.Common.{◌≡◌, length, slice_set}
use Rattle.index_list.specs.Many.{list_at}
use Rattle.pending_frames.specs.Kept.{IsKept}
use Rattle.pending_frames.proofs.walks.empty.Given as goal

abbrev pub invariant-loop-place : goal.invariant-loop-place
invariant-loop-place l = record {
  lists : l.lists.lists ≡ slice_set l.fn.lists.lists l.node (list_at l.lists.lists l.node);
  kept : IsKept l.lists.lists;
}

abbrev pub decreases-loop-place : goal.decreases-loop-place
decreases-loop-place l = length (list_at l.lists.lists l.node)
