use Rattle.std.proofs.Common.{refl, subst, sym}
use Rattle.world_specs.specs.Next.{Start, at}
use Rattle.world_core.specs.Courses.{Course, network_of}
use Rattle.world_core.specs.Kept.{IsKept}
use Rattle.world_core.specs.Units.{states_of}
use Rattle.world_core.specs.OnBuses.{buses_with}
use Rattle.bus_specs.specs.Bus.{Bus}
use Rattle.bus_specs.specs.Start.{start}
use Rattle.world_core.proofs.Acting.{attempts, counts, early, goes-on, on-course, room}
use Rattle.world_core.proofs.BusEvents.{start-due, kept-on}
use Rattle.world_core.proofs.world.World.start.Goals as goal

pub start-requires-clause-due : goal.start-requires-clause-due
start-requires-clause-due g c =
    let is = c.self.view_is in
    let kept = c.self.invariant (goes-on g.E.Ecu c.self.inside.course c.self.inside.ecus.items c.self.inside.shared c.self.inside.failed c.args.self.now is c.requires.goes_on) in
    let next = on-course g.E.Ecu c.self.inside.course c.self.inside.ecus.items c.self.inside.shared c.self.inside.failed c.args.self.now is (at (Start c.args.bus) c.args.moment) c.requires.next in
    start-due c.self.inside.course.plan.stop (network_of c.self.inside.course (states_of g.E.Ecu c.self.inside.ecus.items c.self.inside.shared)) kept.within.fits.sound c.args.bus c.args.moment next

pub start-requires-clause-moment : goal.start-requires-clause-moment
start-requires-clause-moment g c =
    let is = c.self.view_is in
    let kept = c.self.invariant (goes-on g.E.Ecu c.self.inside.course c.self.inside.ecus.items c.self.inside.shared c.self.inside.failed c.args.self.now is c.requires.goes_on) in
    let next = on-course g.E.Ecu c.self.inside.course c.self.inside.ecus.items c.self.inside.shared c.self.inside.failed c.args.self.now is (at (Start c.args.bus) c.args.moment) c.requires.next in
    early g.E.Ecu c.self.inside.course c.self.inside.ecus.items c.self.inside.shared kept (at (Start c.args.bus) c.args.moment) next

pub start-requires-clause-attempts : goal.start-requires-clause-attempts
start-requires-clause-attempts g c =
    let is = c.self.view_is in
    let kept = c.self.invariant (goes-on g.E.Ecu c.self.inside.course c.self.inside.ecus.items c.self.inside.shared c.self.inside.failed c.args.self.now is c.requires.goes_on) in
    attempts g.E.Ecu c.self.inside.course c.self.inside.ecus.items c.self.inside.shared kept

pub invariant_of-self-2 : goal.invariant_of-self-2
invariant_of-self-2 g c = λ e.
    let is = c.self.view_is in
    let kept = c.self.invariant (goes-on g.E.Ecu c.self.inside.course c.self.inside.ecus.items c.self.inside.shared c.self.inside.failed c.args.self.now is c.requires.goes_on) in
    let next = on-course g.E.Ecu c.self.inside.course c.self.inside.ecus.items c.self.inside.shared c.self.inside.failed c.args.self.now is (at (Start c.args.bus) c.args.moment) c.requires.next in
    let left = room g.E.Ecu c.self.inside.course c.self.inside.ecus.items c.self.inside.shared c.self.inside.failed c.args.self.now is c.requires.budget in
    let after = buses_with c.args.bus (λ (b : Bus). start b c.args.moment) c.self.inside.course.buses in
    subst (λ (x : Course). IsKept g.E.Ecu x c.self.inside.ecus.items c.self.inside.shared)
    (sym (counts c.self.inside.course _ c.count.new.self after c.args.moment c.in_ok-lines.ensures.state c.count.ensures))
    (kept-on g.E.Ecu g.met.E.Ecu.replies_are_bytes c.self.inside.course c.self.inside.ecus.items c.self.inside.shared (at (Start c.args.bus) c.args.moment) after kept next left refl)
