use Rattle.std.proofs.Common.{ap, refl, sym}
use Rattle.std.proofs.lemmas.Result.{on_ok_weaker}
use Rattle.bus_specs.specs.Bus.{Bus}
use Rattle.bus_specs.specs.Start.{start}
use Rattle.bus_sound.proofs.Steady.{start-steady}
use Rattle.world_core.specs.contracts.course.Course.{the_view}
use Rattle.world_core.specs.Courses.{Course}
use Rattle.world_core.proofs.Numbered.{numbered, plans-with, same-course}
use Rattle.world_core.proofs.course.Course.start.Goals as goal

pub start_on-requires-clause-numbered : goal.start_on-requires-clause-numbered
start_on-requires-clause-numbered c =
    numbered c.args.self.now.plan c.self.inside.buses.items c.requires.plan (sym (ap (λ (x : Course). x.plan.buses) c.self.view_is))

pub returns-clause-state : goal.returns-clause-state
returns-clause-state c = rw (← c.self.view_is) (on_ok_weaker c.start_on.result
    (λ e. same-course (the_view c.self.inside) c.start_on.new.buses.items _ e (plans-with (λ (b : Bus). start b c.args.now) (λ b. start-steady b c.args.now) c.args.bus c.self.inside.buses.items) refl)
    c.start_on.ensures.state)
