use Rattle.std.proofs.Common.{◌*◌, All, List, drop, length, Some, None, slice_set, ap, refl, sym, ◌∙◌, subst}
use Rattle.unit_specs.specs.Description.{Description}
use Rattle.bus_specs.specs.Bus.{Bus}
use Rattle.bus_specs.specs.Sound.{Sound}
use Rattle.session_specs.specs.Outcome.{SessionOut}
use Rattle.world_specs.specs.Plan.{NodePlan}
use Rattle.world_core.specs.contracts.course.Course.{the_view}
use Rattle.world_core.specs.Called.{call_of}
use Rattle.world_core.specs.Courses.{Course}
use Rattle.world_core.specs.Held.{IsHeld, LastsAreBy}
use Rattle.world_core.specs.OnBuses.{AreNumbered}
use Rattle.world_core.specs.Settled.{entries_behind, standing_behind}
use Rattle.world_core.specs.Sitting.{IsInput, Sat}
use Rattle.world_core.specs.Units.{states_of}
use Rattle.world_core.proofs.Numbered.{numbered}
use Rattle.world_core.proofs.Placed.{placed}
use Rattle.world_core.proofs.Seating.{dues-each, held-behind, input-fits, lasts-behind, may-sit, settled-course, sits-at}
use Rattle.world_core.proofs.course.Course.sit.Goals as goal

pub call_of-requires-clause-numbered : goal.call_of-requires-clause-numbered
call_of-requires-clause-numbered g c =
    subst AreNumbered (sym c.deref.ensures.value)
    (numbered c.args.self.now.plan c.self.inside.buses.items c.requires.held.plan
    (sym (ap (λ (x : Course). x.plan.buses) c.self.view_is)))

pub returns-in_default-clause-sits : goal.returns-in_default-clause-sits
returns-in_default-clause-sits g c =
    let x : Course = the_view c.self.inside in
    let at = placed g.E.Ecu x c.args.self.now c.args.ecus.now.items c.args.shared.now c.args.node c.index-plan.result.now
    c.index-standing.result.now _ _
    c.self.view_is c.requires.held c.requires.there c.self.inside.nodes.ok.0 c.index-plan.ensures c.self.inside.standings.ok.0
    c.index-standing.ensures in
    let called = c.in_ok-called.ensures ∙ ap (λ (bs : List Bus). call_of bs c.self.inside.resolution c.args.now c.args.node
    c.index-plan.result.now c.index-standing.result.now (drop (c.args.node * 8) c.self.inside.clocks)) c.deref.ensures.value in
    sits-at g.E.Ecu c.args.now c.args.node c.index-plan.result.now c.index-standing.result.now None None x c.args.self.now c.args.self.now
    (states_of g.E.Ecu c.args.ecus.now.items c.args.shared.now) (states_of g.E.Ecu c.args.ecus.now.items c.args.shared.now)
    c.self.view_is at.here at.standing (sym c.in_default.is ∙ called) (sym c.self.view_is, refl)

pub session_at-requires-clause-may : goal.session_at-requires-clause-may
session_at-requires-clause-may g c =
    let x : Course = the_view c.self.inside in
    let at = placed g.E.Ecu x c.args.self.now c.args.ecus.now.items c.args.shared.now c.args.node c.index-plan.result.now
    c.index-standing.result.now _ _
    c.self.view_is c.requires.held c.requires.there c.self.inside.nodes.ok.0 c.index-plan.ensures c.self.inside.standings.ok.0
    c.index-standing.ensures in
    let called = c.in_ok-called.ensures ∙ ap (λ (bs : List Bus). call_of bs c.self.inside.resolution c.args.now c.args.node
    c.index-plan.result.now c.index-standing.result.now (drop (c.args.node * 8) c.self.inside.clocks)) c.deref.ensures.value in
    let is = sym c.in-Some.is ∙ called in
    may-sit g.E.Ecu x c.args.ecus.now.items c.args.shared.now c.args.now c.args.node c.index-plan.result.now c.index-standing.result.now
    c.in-Some.call refl at.held at.here at.standing is

pub session_at-requires-clause-input : goal.session_at-requires-clause-input
session_at-requires-clause-input g c =
    let x : Course = the_view c.self.inside in
    let at = placed g.E.Ecu x c.args.self.now c.args.ecus.now.items c.args.shared.now c.args.node c.index-plan.result.now
    c.index-standing.result.now _ _
    c.self.view_is c.requires.held c.requires.there c.self.inside.nodes.ok.0 c.index-plan.ensures c.self.inside.standings.ok.0
    c.index-standing.ensures in
    let called = c.in_ok-called.ensures ∙ ap (λ (bs : List Bus). call_of bs c.self.inside.resolution c.args.now c.args.node
    c.index-plan.result.now c.index-standing.result.now (drop (c.args.node * 8) c.self.inside.clocks)) c.deref.ensures.value in
    let is = sym c.in-Some.is ∙ called in
    let described = ap (λ (n : NodePlan). n.description) c.plan.view_is in
    let sound = subst (λ (y : Course). All Sound y.buses) (sym c.self.view_is) c.requires.sound in
    let last = subst (λ (y : Course). LastsAreBy c.args.now y.standings) (sym c.self.view_is) c.requires.last in
    subst (λ d. IsInput d c.in-Some.call.input) (sym described)
    (input-fits g.E.Ecu x c.args.ecus.now.items c.args.shared.now c.args.now c.args.node c.index-plan.result.now
    c.index-standing.result.now c.in-Some.call refl at.held at.here at.standing is sound c.requires.early last)

pub settle_entries-requires-clause-each : goal.settle_entries-requires-clause-each
settle_entries-requires-clause-each g c =
    dues-each g.E.Ecu c.plan.inside.description c.in-Some.call.input c.args.node _ _ _ c.in_ok-out.ensures.sat
    ∙ ap length (sym (ap (λ (x : Description). x.countdown) c.d.view_is) ∙ sym c.as_slice.ensures)

pub returns-clause-held : goal.returns-clause-held
returns-clause-held g c =
    let x : Course = the_view c.self.inside in
    let at = placed g.E.Ecu x c.args.self.now c.args.ecus.now.items c.args.shared.now c.args.node c.index-plan.result.now
    c.index-standing.result.now _ _
    c.self.view_is c.requires.held c.requires.there c.self.inside.nodes.ok.0 c.index-plan.ensures c.self.inside.standings.ok.0
    c.index-standing.ensures in
    let called = c.in_ok-called.ensures ∙ ap (λ (bs : List Bus). call_of bs c.self.inside.resolution c.args.now c.args.node
    c.index-plan.result.now c.index-standing.result.now (drop (c.args.node * 8) c.self.inside.clocks)) c.deref.ensures.value in
    let is = sym c.in-Some.is ∙ called in
    let described = ap (λ (n : NodePlan). n.description) c.plan.view_is in
    let counted = ap length (c.as_slice.ensures ∙ ap (λ (d : Description). d.countdown) c.d.view_is ∙ ap
    (λ (d : Description). d.countdown) described) in
    let ended = ap (λ (o : SessionOut). o.end) c.out.view_is in
    let out = c.in_ok-out.out in
    let sat = subst (λ d. Sat g.E.Ecu d c.in-Some.call.input c.args.node (states_of g.E.Ecu c.args.ecus.now.items c.args.shared.now) out
    (states_of g.E.Ecu c.session_at.new.ecus.items c.session_at.new.shared)) described c.in_ok-out.ensures.sat in
    let after = settled-course x _ (slice_set x.standings c.args.node (standing_behind c.args.now out.end)) _
    (entries_behind c.args.now (c.args.node * 8) (length c.index-plan.result.now.description.countdown) out.end out.dues x.clocks)
    (ap (slice_set x.standings c.args.node) (c.standing_behind.ensures ∙ ap (standing_behind c.args.now) ended))
    (c.settle_entries.ensures ∙ ap (λ k. entries_behind c.args.now (c.args.node * 8) k out.end out.dues x.clocks) counted) in
    subst (λ (y : Course). IsHeld g.E.Ecu y c.session_at.new.ecus.items c.session_at.new.shared) (sym after)
    (held-behind g.E.Ecu x c.args.ecus.now.items c.args.shared.now c.args.now c.args.node c.index-plan.result.now
    c.index-standing.result.now c.in-Some.call refl at.held at.here at.standing is out c.session_at.new.ecus.items c.session_at.new.shared
    sat c.in_ok-out.ensures.apart c.in_ok-out.ensures.each)

pub returns-clause-last : goal.returns-clause-last
returns-clause-last g c =
    lasts-behind c.args.now c.args.node _ c.standing_behind.result c.self.inside.standings.items c.standing_behind.ensures
    (subst (λ (x : Course). LastsAreBy c.args.now x.standings) (sym c.self.view_is) c.requires.last)

pub returns-clause-sits : goal.returns-clause-sits
returns-clause-sits g c =
    let x : Course = the_view c.self.inside in
    let at = placed g.E.Ecu x c.args.self.now c.args.ecus.now.items c.args.shared.now c.args.node c.index-plan.result.now
    c.index-standing.result.now _ _
    c.self.view_is c.requires.held c.requires.there c.self.inside.nodes.ok.0 c.index-plan.ensures c.self.inside.standings.ok.0
    c.index-standing.ensures in
    let called = c.in_ok-called.ensures ∙ ap (λ (bs : List Bus). call_of bs c.self.inside.resolution c.args.now c.args.node
    c.index-plan.result.now c.index-standing.result.now (drop (c.args.node * 8) c.self.inside.clocks)) c.deref.ensures.value in
    let is = sym c.in-Some.is ∙ called in
    let described = ap (λ (n : NodePlan). n.description) c.plan.view_is in
    let counted = ap length (c.as_slice.ensures ∙ ap (λ (d : Description). d.countdown) c.d.view_is ∙ ap
    (λ (d : Description). d.countdown) described) in
    let ended = ap (λ (o : SessionOut). o.end) c.out.view_is in
    let out = c.in_ok-out.out in
    let sat = subst (λ d. Sat g.E.Ecu d c.in-Some.call.input c.args.node (states_of g.E.Ecu c.args.ecus.now.items c.args.shared.now) out
    (states_of g.E.Ecu c.session_at.new.ecus.items c.session_at.new.shared)) described c.in_ok-out.ensures.sat in
    let after = settled-course x _ (slice_set x.standings c.args.node (standing_behind c.args.now out.end)) _
    (entries_behind c.args.now (c.args.node * 8) (length c.index-plan.result.now.description.countdown) out.end out.dues x.clocks)
    (ap (slice_set x.standings c.args.node) (c.standing_behind.ensures ∙ ap (standing_behind c.args.now) ended))
    (c.settle_entries.ensures ∙ ap (λ k. entries_behind c.args.now (c.args.node * 8) k out.end out.dues x.clocks) counted) in
    sits-at g.E.Ecu c.args.now c.args.node c.index-plan.result.now c.index-standing.result.now (Some c.in-Some.call) _ x c.args.self.now _
    (states_of g.E.Ecu c.args.ecus.now.items c.args.shared.now) (states_of g.E.Ecu c.session_at.new.ecus.items c.session_at.new.shared)
    c.self.view_is at.here at.standing is
    (record { sat = sat; number = refl; newness = refl; course = after })
