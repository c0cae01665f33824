use Rattle.std.proofs.Common.{◌∙◌, sym}
use Rattle.index_list.specs.Many.{list_at}
use Rattle.pending_frames.proofs.Steps.{first_among, is_placed}
use Rattle.pending_frames.proofs.Kept.{kept_without, emptier}
use Rattle.pending_frames.proofs.walks.empty.Goals as goal

pub unlink-gone-requires : goal.unlink-gone-requires
unlink-gone-requires c =
    let lists = c.loop-place.lists.lists in
    let there = first_among (list_at lists c.args.node) c.in-Some.place (sym c.first.ensures ∙ c.in-Some.is) in
    is_placed lists c.args.node c.in-Some.place there.0 there.1

pub loop-place-preserved : goal.loop-place-preserved
loop-place-preserved c =
    let lists = c.loop-place.lists.lists in
    let there = first_among (list_at lists c.args.node) c.in-Some.place (sym c.first.ensures ∙ c.in-Some.is) in
    let kept = c.loop-place.invariant.kept in
    record {
      lists = emptier c.args.lists.now.lists lists c.unlink-gone.new.self.lists c.args.node c.in-Some.place there.0 kept
          c.requires.node c.loop-place.invariant.lists there.1 c.unlink-gone.ensures.lists;
      kept = rw c.unlink-gone.ensures.lists (kept_without lists c.in-Some.place kept);
    }
