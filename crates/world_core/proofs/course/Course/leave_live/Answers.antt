use Rattle.std.proofs.Common.{ap, refl, ◌∙◌}
use Rattle.world_core.specs.contracts.course.Course.{the_view}
use Rattle.world_core.specs.Closing.{left_from}
use Rattle.world_core.proofs.CloseFits.{left-plans}
use Rattle.world_core.proofs.Numbered.{same-course}
use Rattle.world_core.proofs.course.Course.leave_live.Goals as goal

pub returns : goal.returns
returns c = rw (← c.self.view_is) (same-course (the_view c.self.inside) c.leave_live.new.buses.items _
    (c.leave_live.ensures ∙ ap (λ ts. left_from 0 ts c.self.inside.buses.items) c.deref.ensures.value)
    (left-plans 0 c.self.inside.standings.items c.self.inside.buses.items) refl)
