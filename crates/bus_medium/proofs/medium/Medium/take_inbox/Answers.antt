use Rattle.std.proofs.Common.{rules, arith, subst, sym}
use Rattle.bus_specs.specs.Bus.{Member}
use Rattle.bus_specs.specs.Inbox.{member_after_inbox}
use Rattle.bus_medium.specs.Places.{changed}
use Rattle.bus_medium.specs.Setups.{IsKept}
use Rattle.bus_medium.proofs.Keeping.{take_inbox-leaves, members-leave, all-changed}
use Rattle.bus_medium.proofs.medium.Medium.take_inbox.Goals as goal

pub invariant_of-self : goal.invariant_of-self
invariant_of-self c =
    let f : Member → Member = changed c.args.node (member_after_inbox c.args.now) in
    let members = all-changed f c.self.inside.members.items c.deref_mut.result.now c.take_inbox.new.members c.self.inside.members.len
    (omega (arith, c.self.inside.members.ok.0)) (search rules) (search rules) in
    subst IsKept (sym (members-leave c.args.self.now _ _ f c.self.view_is members))
    (take_inbox-leaves c.args.self.now c.args.now c.args.node (subst IsKept c.self.view_is c.self.invariant))
