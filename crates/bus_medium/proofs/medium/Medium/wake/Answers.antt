use Rattle.std.proofs.Common.{rules, arith, subst, ◌+◌}
use Rattle.bus_specs.specs.Bus.{bits, Member}
use Rattle.bus_specs.specs.Submit.{Wakeup, member_after_wakeup}
use Rattle.bus_medium.specs.Setups.{IsKept}
use Rattle.bus_medium.proofs.Keeping.{submission-leaves, members-leave, all-changed}
use Rattle.bus_medium.proofs.medium.Medium.wake.Goals as goal

pub invariant_of-self : goal.invariant_of-self
invariant_of-self c =
    let f : Member → Member = member_after_wakeup c.args.node (c.args.now + bits c.args.self.now 1) in
    let members = all-changed f c.self.inside.members.items c.deref_mut.result.now c.wake_up.new.members c.self.inside.members.len
    (omega (arith, c.self.inside.members.ok.0)) (search rules) (search rules) in
    submission-leaves c.args.self.now _ c.args.now c.args.node Wakeup
    (members-leave c.args.self.now _ _ f c.self.view_is members)
    (subst IsKept c.self.view_is c.self.invariant) tt c.requires.live
