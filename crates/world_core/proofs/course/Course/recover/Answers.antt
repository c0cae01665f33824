use Rattle.std.proofs.Common.{ap, refl, sym}
use Rattle.std.proofs.lemmas.Result.{on_ok_weaker}
use Rattle.bus_specs.specs.Bus.{Bus}
use Rattle.bus_specs.specs.Finish.{recover}
use Rattle.bus_sound.proofs.Steady.{recover-steady}
use Rattle.world_core.specs.contracts.course.Course.{the_view}
use Rattle.world_core.specs.Courses.{Course}
use Rattle.world_core.proofs.Numbered.{numbered, plans-with, same-course}
use Rattle.world_core.proofs.course.Course.recover.Goals as goal

pub recover_on-requires-clause-numbered : goal.recover_on-requires-clause-numbered
recover_on-requires-clause-numbered c =
    numbered c.args.self.now.plan c.self.inside.buses.items c.requires.plan (sym (ap (λ (x : Course). x.plan.buses) c.self.view_is))

pub returns-clause-state : goal.returns-clause-state
returns-clause-state c = rw (← c.self.view_is) (on_ok_weaker c.recover_on.result
    (λ e. same-course (the_view c.self.inside) c.recover_on.new.buses.items _ e (plans-with (λ (b : Bus). recover b c.args.now c.args.node) (λ b. recover-steady b c.args.now c.args.node) c.args.bus c.self.inside.buses.items) refl)
    c.recover_on.ensures.state)
