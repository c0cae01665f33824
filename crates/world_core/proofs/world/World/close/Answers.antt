use Rattle.world_core.proofs.Acting.{goes-on}
use Rattle.world_core.proofs.CloseSeen.{closed-seen, kept-closed}
use Rattle.world_core.proofs.world.World.close.Goals as goal

pub invariant_of-self-2 : goal.invariant_of-self-2
invariant_of-self-2 g c = λ e.
    let is = c.self.view_is in
    let kept = c.self.invariant (goes-on g.E.Ecu c.self.inside.course c.self.inside.ecus.items c.self.inside.shared c.self.inside.failed c.args.self.now is c.requires.goes_on) in
    kept-closed g.E.Ecu c.self.inside.course c.self.inside.ecus.items c.self.inside.shared kept c.leave_live.new.self c.close_all.new.self c.close_all.new.ecus.items c.close_all.new.shared
    c.leave_live.ensures c.in_ok-lines.ensures.stays c.in_ok-lines.ensures.nodes c.in_ok-lines.ensures.units c.in_ok-lines.ensures.held

pub returns-clause-state : goal.returns-clause-state
returns-clause-state g c =
    let is = c.self.view_is in
    let kept = c.self.invariant (goes-on g.E.Ecu c.self.inside.course c.self.inside.ecus.items c.self.inside.shared c.self.inside.failed c.args.self.now is c.requires.goes_on) in
    closed-seen g.E.Ecu c.self.inside.course c.self.inside.ecus.items c.self.inside.shared kept c.leave_live.new.self c.close_all.new.self c.close_all.new.ecus.items c.close_all.new.shared
    c.leave_live.ensures c.in_ok-lines.ensures.stays c.in_ok-lines.ensures.nodes c.self.inside.failed c.args.self.now is c.requires.goes_on c.in_ok-lines.ensures.parts c.in_ok-lines.ensures.units
