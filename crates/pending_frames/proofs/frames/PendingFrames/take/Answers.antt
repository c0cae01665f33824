use Rattle.std.proofs.Common.{◌<◌, ◌∙◌, ap, sym, refl, arith, length, Some}
use Rattle.std.proofs.lemmas.List.{length-map}
use Rattle.bus_specs.specs.Bus.{Request}
use Rattle.index_list.specs.Many.{without}
use Rattle.pending_frames.specs.Pending.{Waiting}
use Rattle.pending_frames.proofs.Steps.{is_placed, placed_item}
use Rattle.pending_frames.proofs.Kept.{kept_without, fewer_without, below_fewer, counts_without, count_is}
use Rattle.pending_frames.proofs.Leaving.{frame_missing, nothing_leaves, frame_there, requests_taken}
use Rattle.pending_frames.proofs.frames.PendingFrames.take.Goals as goal

pub returns-in_err-place-clause-taken : goal.returns-in_err-place-clause-taken
returns-in_err-place-clause-taken c =
    let lists = c.self.inside.lists.lists in
    let none = frame_missing lists c.self.invariant.0 c.args.node c.args.number c.in_err-place.ensures.none in
    c.from_residual.ensures ∙ rw (← c.self.view_is) (sym none)

pub returns-in_err-place-clause-left : goal.returns-in_err-place-clause-left
returns-in_err-place-clause-left c =
    let lists = c.self.inside.lists.lists in
    rw (← c.self.view_is, nothing_leaves lists c.self.invariant.0 c.args.node c.args.number c.in_err-place.ensures.none) refl

pub unlink-entry-requires : goal.unlink-entry-requires
unlink-entry-requires c =
    let there = c.in_ok-place.ensures.found in
    is_placed c.self.inside.lists.lists c.args.node c.in_ok-place.place there.request there.among

pub invariant_of-self : goal.invariant_of-self
invariant_of-self c =
    let lists = c.self.inside.lists.lists in
    let node = c.args.node in
    let place = c.in_ok-place.place in
    let h = c.self.invariant in
    let there = c.in_ok-place.ensures.found in
    let within : node < length lists = omega (arith, c.requires, ap (λ (w : Waiting). w.nodes) c.self.view_is) in
    let count = count_is lists c.self.inside.counts.items node c.index_mut.result.now h.2 within c.index_mut.ensures.value in
    rw (c.unlink-entry.ensures.lists, h.2) (
      kept_without lists place h.0,
      below_fewer c.self.inside.next lists _ h.1 (fewer_without lists place),
      counts_without lists place node there.request c.index_mut.result.now h.0 within there.among count,
    )

pub returns-clause-taken : goal.returns-clause-taken
returns-clause-taken c =
    let lists = c.self.inside.lists.lists in
    let node = c.args.node in
    let place = c.in_ok-place.place in
    let h = c.self.invariant.0 in
    let there = c.in_ok-place.ensures.found in
    let item = placed_item lists h node place there.request there.among c.unlink-entry.result c.unlink-entry.ensures.item in
    rw (← c.self.view_is) (ap Some (c.into_frame.ensures ∙ ap (λ (r : Request). r.frame) (sym item))
    ∙ sym (frame_there lists h node c.args.number place there.request there.among there.sought))

pub returns-clause-left : goal.returns-clause-left
returns-clause-left c =
    let lists = c.self.inside.lists.lists in
    let place = c.in_ok-place.place in
    let h = c.self.invariant.0 in
    let there = c.in_ok-place.ensures.found in
    rw (
      ← c.self.view_is,
      c.unlink-entry.ensures.lists,
      requests_taken lists h c.args.node c.args.number place there.request there.among there.sought,
      length-map lists (without place),
    ) refl
