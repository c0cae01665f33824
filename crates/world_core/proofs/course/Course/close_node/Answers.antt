use Rattle.std.proofs.Common.{◌≡◌, ◌<◌, ◌*◌, true, length, replicate, Some, slice_get, slice_set, ap, sym, ◌∙◌, subst, arith}
use Rattle.std.proofs.lemmas.Option.{slice_get_read}
use Rattle.unit_specs.specs.Description.{Description}
use Rattle.session_specs.specs.Outcome.{Clear}
use Rattle.ecu_session.specs.Words.{end_of}
use Rattle.world_specs.specs.Plan.{NodePlan}
use Rattle.world_core.specs.contracts.course.Course.{the_view}
use Rattle.world_core.specs.Clocks.{settled}
use Rattle.world_core.specs.Closing.{standing_closed}
use Rattle.world_core.specs.Courses.{Course}
use Rattle.world_core.specs.Held.{IsHeld}
use Rattle.world_core.specs.Units.{states_of}
use Rattle.world_core.proofs.Inputs.{at-place}
use Rattle.world_core.proofs.Placed.{placed}
use Rattle.world_core.proofs.Seating.{settled-course}
use Rattle.world_core.proofs.Shutting.{held-shut, may-close, shuts-at}
use Rattle.world_core.proofs.course.Course.close_node.Goals as goal

pub close_at-requires-clause-may : goal.close_at-requires-clause-may
close_at-requires-clause-may g c =
    let x : Course = the_view c.self.inside in
    let there : c.args.node < length x.plan.nodes = subst (λ (y : Course). c.args.node < length y.plan.nodes) (sym c.self.view_is)
    c.requires.there in
    let held : IsHeld g.E.Ecu x c.args.ecus.now.items c.args.shared.now = subst
    (λ (y : Course). IsHeld g.E.Ecu y c.args.ecus.now.items c.args.shared.now) (sym c.self.view_is) c.requires.held in
    let as-many = held.arranged.standings in
    let node = at-place x.plan.nodes c.args.node there in
    let within-standings : c.args.node < _ = omega (arith, there, as-many, c.self.inside.standings.ok.0) in
    let standing : slice_get x.standings c.args.node ≡ Some c.index.result.now = slice_get_read _ _ _ _ c.self.inside.standings.ok.0
    within-standings c.index.ensures in
    may-close g.E.Ecu x c.args.ecus.now.items c.args.shared.now c.args.node node.item c.index.result.now held node.here standing
    (sym c.is_live.ensures ∙ c.if-not-is_live.false)

pub returns-clause-held : goal.returns-clause-held
returns-clause-held g c =
    let x : Course = the_view c.self.inside in
    let at = placed g.E.Ecu x c.args.self.now c.args.ecus.now.items c.args.shared.now c.args.node c.index-plan.result.now
    c.index.result.now _ _
    c.self.view_is c.requires.held c.requires.there c.self.inside.nodes.ok.0 c.index-plan.ensures c.self.inside.standings.ok.0
    c.index.ensures in
    let described = ap (λ (n : NodePlan). n.description) c.plan.view_is in
    let counted = ap length (c.as_slice.ensures ∙ ap (λ (d : Description). d.countdown) c.d.view_is ∙ ap
    (λ (d : Description). d.countdown) described) in
    let after = settled-course x _ (slice_set x.standings c.args.node (standing_closed (end_of c.in_ok-end.end))) _
    (settled 0 (c.args.node * 8) (replicate (length c.index-plan.result.now.description.countdown) Clear) x.clocks)
    (ap (slice_set x.standings c.args.node) c.standing_closed.ensures)
    (c.clear_all.ensures ∙ ap (λ k. settled 0 (c.args.node * 8) (replicate k Clear) x.clocks) counted) in
    subst (λ (y : Course). IsHeld g.E.Ecu y c.close_at.new.ecus.items c.close_at.new.shared) (sym after)
    (held-shut g.E.Ecu x c.args.ecus.now.items c.args.shared.now c.args.node c.index-plan.result.now c.index.result.now at.held at.here
    at.standing (sym c.is_live.ensures ∙ c.if-not-is_live.false)
    (end_of c.in_ok-end.end) c.close_at.new.ecus.items c.close_at.new.shared c.in_ok-end.ensures.closed c.in_ok-end.ensures.apart
    c.in_ok-end.ensures.each)

pub returns-clause-shuts : goal.returns-clause-shuts
returns-clause-shuts g c =
    let x : Course = the_view c.self.inside in
    let at = placed g.E.Ecu x c.args.self.now c.args.ecus.now.items c.args.shared.now c.args.node c.index-plan.result.now
    c.index.result.now _ _
    c.self.view_is c.requires.held c.requires.there c.self.inside.nodes.ok.0 c.index-plan.ensures c.self.inside.standings.ok.0
    c.index.ensures in
    let described = ap (λ (n : NodePlan). n.description) c.plan.view_is in
    let counted = ap length (c.as_slice.ensures ∙ ap (λ (d : Description). d.countdown) c.d.view_is ∙ ap
    (λ (d : Description). d.countdown) described) in
    let after = settled-course x _ (slice_set x.standings c.args.node (standing_closed (end_of c.in_ok-end.end))) _
    (settled 0 (c.args.node * 8) (replicate (length c.index-plan.result.now.description.countdown) Clear) x.clocks)
    (ap (slice_set x.standings c.args.node) c.standing_closed.ensures)
    (c.clear_all.ensures ∙ ap (λ k. settled 0 (c.args.node * 8) (replicate k Clear) x.clocks) counted) in
    shuts-at g.E.Ecu c.args.node c.index-plan.result.now c.index.result.now true (Some (end_of c.in_ok-end.end)) x c.args.self.now _
    (states_of g.E.Ecu c.args.ecus.now.items c.args.shared.now)
    (states_of g.E.Ecu c.close_at.new.ecus.items c.close_at.new.shared) c.self.view_is at.here at.standing
    (sym (sym c.is_live.ensures ∙ c.if-not-is_live.false))
    (record { closed = c.in_ok-end.ensures.closed; course = after })
