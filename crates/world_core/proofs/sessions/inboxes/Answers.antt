use Rattle.std.proofs.Common.{◌≡◌, ◌<◌, ◌∷◌, ◌++◌, [], Some, get_or, length, map, slice_get, take, ap, refl, sym, ◌∙◌, arith}
use Rattle.std.proofs.lemmas.List.{map-append, take_more}
use Rattle.std.proofs.lemmas.Option.{slice_get_read}
use Rattle.world_specs.specs.Sessions.{inbox_on}
use Rattle.world_core.proofs.Numbered.{inbox-at}
use Rattle.world_core.proofs.sessions.inboxes.Goals as goal

pub loop-bus-preserved : goal.loop-bus-preserved
loop-bus-preserved c =
    let i = c.loop-bus.bus-index in
    let names = c.args.names.now in
    let inside : c.loop-bus.bus-index < length c.args.names.now = omega arith in
    let bus = get_or c.args.names.now c.loop-bus.bus-index 0 in
    let there = c.requires.there i 0 inside in
    let at : slice_get c.args.buses.now (get_or c.args.names.now c.loop-bus.bus-index 0) ≡ Some c.index-buses-bus.result = slice_get_read _ _ _ _ refl there c.index-buses-bus.is in
    c.in_ok-push.ensures.items
    ∙ ap (λ v. v ++ c.in_ok-inbox.field-0 ∷ []) c.loop-bus.invariant
    ∙ ap (λ x. map (inbox_on c.args.buses.now c.args.now c.args.node) (take i names) ++ x ∷ []) (c.in_ok-inbox.ensures ∙ inbox-at c.args.now c.args.node bus c.args.buses.now c.index-buses-bus.result c.requires.numbered at)
    ∙ sym (map-append (inbox_on c.args.buses.now c.args.now c.args.node) (take i names) (bus ∷ []))
    ∙ ap (map (inbox_on c.args.buses.now c.args.now c.args.node)) (sym (take_more names i 0 inside))
