use Rattle.std.proofs.Common.{◌≢◌, length}
use Rattle.index_list.specs.Many.{list_at}
use Rattle.pending_frames.specs.Kept.{HasCome, from_place}
use Rattle.pending_frames.proofs.walks.place_of.Given as goal

abbrev pub invariant-loop-at : goal.invariant-loop-at
invariant-loop-at l = HasCome (list_at l.lists.lists l.node) l.at (λ r. r.number ≢ l.number)

abbrev pub decreases-loop-at : goal.decreases-loop-at
decreases-loop-at l = length (from_place l.at (list_at l.lists.lists l.node))
