use Rattle.std.proofs.Common.{◌≡◌, ◌<◌, length, Some, slice_get, arith, refl, sym, ap, subst}
use Rattle.std.proofs.lemmas.Option.{slice_get_read}
use Rattle.world_core.specs.Courses.{Course}
use Rattle.world_core.proofs.Imaging.{imaged}
use Rattle.world_core.proofs.course.Course.node_images.Goals as goal

pub loop-place-preserved : goal.loop-place-preserved
loop-place-preserved c =
    let place = c.loop-place.place in
    let within : place < length c.deref-plan-items.result.now = omega arith in
    let same = c.deref-plan-items.ensures.value in
    let many : length c.self.inside.standings.items ≡ length c.self.inside.nodes.items =
    subst (λ (x : Course). length x.standings ≡ length x.plan.nodes) (sym c.self.view_is) c.requires.arranged.standings in
    let inside : place < length c.self.inside.nodes.items = subst (λ ns. place < length ns) same within in
    let here = subst (λ ns. slice_get ns place ≡ Some c.plan-item.result) same
    (slice_get_read c.deref-plan-items.result.now (length c.deref-plan-items.result.now) place c.plan-item.result refl within c.plan-item.is) in
    let stands = slice_get_read c.self.inside.standings.items (length c.self.inside.standings.items) place c.index-standing.result.now refl
    (omega (arith, many, inside)) c.index-standing.ensures in
    imaged c.self.inside.nodes.items c.self.inside.standings.items c.self.inside.clocks place c.plan-item.result
    c.index-standing.result.now c.loop-place.images.items c.push.new.self.items c.in_ok-node_image.field-0
    here stands c.in_ok-push.ensures.items c.in_ok-node_image.ensures c.loop-place.invariant
