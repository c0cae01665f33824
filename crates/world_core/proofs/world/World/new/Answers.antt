use Rattle.std.proofs.Common.{map, sym, subst}
use Rattle.world_core.specs.Kept.{IsKept}
use Rattle.world_core.specs.Units.{states_of}
use Rattle.world_core.proofs.Opened.{kept, world-opens}
use Rattle.world_core.proofs.world.World.new.Goals as goal

pub invariant_of-result : goal.invariant_of-result
invariant_of-result g c = λ e. subst (λ course. IsKept g.E.Ecu course c.args.ecus.items c.args.shared) (sym c.in_ok-course.ensures)
    (kept g.E.Ecu c.args.shared c.args.plan c.args.ecus.items c.requires.plan c.requires.each c.requires.fresh c.requires.apart)

pub returns : goal.returns
returns g c = world-opens c.in_ok-course.course c.args.plan (states_of g.E.Ecu c.args.ecus.items c.args.shared) (map g.E.Ecu.parts c.args.ecus.items) c.args.shared c.in_ok-course.ensures
