use Rattle.std.proofs.Common.{◌≡◌, ◌∙◌, ap, sym, Some}
use Rattle.bus_specs.specs.Bus.{Request}
use Rattle.index_list.specs.Many.{list_at}
use Rattle.pending_frames.proofs.Steps.{first_among, is_placed, has_among}
use Rattle.pending_frames.proofs.Offers.{none_offered, first_offered}
use Rattle.pending_frames.proofs.frames.PendingFrames.offer.Goals as goal

pub returns-in_err-place : goal.returns-in_err-place
returns-in_err-place c =
    let lists = c.self.inside.lists.lists in
    let none = none_offered lists c.self.invariant.0 c.args.node (sym c.first.ensures ∙ c.in_err-place.was) in
    rw (← c.self.view_is, c.from_residual.ensures) none

pub get-entry-requires : goal.get-entry-requires
get-entry-requires c =
    let lists = c.self.inside.lists.lists in
    let there = first_among (list_at lists c.args.node) c.in_ok-place.place (sym c.first.ensures ∙ c.in_ok-place.was) in
    is_placed lists c.args.node c.in_ok-place.place there.0 there.1

pub returns : goal.returns
returns c =
    let lists = c.self.inside.lists.lists in
    let node = c.args.node in
    let place = c.in_ok-place.place in
    let first = sym c.first.ensures ∙ c.in_ok-place.was in
    let there = first_among (list_at lists node) place first in
    let item = c.get-entry.ensures node (has_among (list_at lists node) (place, there.0) there.1) in
    let offered = first_offered lists c.self.invariant.0 node place c.get-entry.result.now first item in
    let r : Request = c.get-entry.result.now in
    let is : Some (record { node = node; number = r.number; frame = r.frame }) ≡ Some r =
    ap (λ n. Some (record { node = n; number = r.number; frame = r.frame })) (sym offered.1) in
    rw (← c.self.view_is, c.number.ensures, c.frame.ensures) (is ∙ offered.0)
