use Rattle.std.proofs.Common.{◌≡◌, ◌*◌, ◌∙◌, ℕ, List, Option, None, length, replicate, sym, ap, arith}
use Rattle.world_specs.specs.Plan.{Plan}
use Rattle.world_core.specs.declared.standing.Standing.TheVariants.{New}
use Rattle.world_core.specs.Courses.{opening_course}
use Rattle.world_core.proofs.Opened.{well-formed, course-opens}
use Rattle.world_core.proofs.course.Course.opening.Goals as goal

pub buses_of-requires : goal.buses_of-requires
buses_of-requires c = well-formed c.args.plan c.plan.inside.buses.items c.requires.plan (sym (ap (λ (p : Plan). p.buses) c.plan.view_is))

abbrev unset : ℕ → List (Option ℕ)
unset n = replicate (n * 8) None

pub returns : goal.returns
returns c =
    let nodes : c.plan.inside.nodes.len ≡ length c.plan.inside.nodes.items = omega (arith, c.plan.inside.nodes.ok.0) in
    let new = c.in_ok-from_elem.ensures.items_if_clones_equal (λ y e. e) ∙ ap (λ n. replicate n New) (c.len-2.ensures ∙ nodes) in
    let clocks = c.in_ok-new.ensures ∙ ap unset (c.len.ensures ∙ nodes) in
    course-opens c.plan.inside.resolution c.plan.inside.stop c.plan.inside.events c.plan.inside.fuel c.plan.inside.buses.items c.plan.inside.nodes.items
    c.in_ok-buses_of.field-0.items c.in_ok-from_elem.field-0.items c.in_ok-new.field-0 c.in_ok-buses_of.ensures new clocks
    ∙ ap opening_course c.plan.view_is
