use Rattle.std.proofs.Common.{◌≡◌, sym, ap, subst}
use Rattle.bus_specs.specs.Bus.{Bus}
use Rattle.world_specs.specs.Plan.{AllFrom}
use Rattle.world_core.specs.Courses.{Course}
use Rattle.world_core.proofs.Buses.{numbered}
use Rattle.world_core.proofs.course.Course.first_event.Goals as goal

pub first_due-requires-clause-numbers : goal.first_due-requires-clause-numbers
first_due-requires-clause-numbers c =
    subst (AllFrom 0 (λ place (b : Bus). b.setup.number ≡ place)) (sym c.deref.ensures.value)
    (numbered c.args.self.now.plan c.self.inside.buses.items c.requires.plan (ap (λ (x : Course). x.plan.buses) (sym c.self.view_is)))
