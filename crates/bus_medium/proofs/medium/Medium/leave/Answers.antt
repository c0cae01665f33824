use Rattle.std.proofs.Common.{rules, arith, subst, sym, not}
use Rattle.std.specs.Prelude.{◌==◌}
use Rattle.bus_specs.specs.Bus.{Member}
use Rattle.bus_specs.specs.Inbox.{member_after_leaving}
use Rattle.bus_medium.specs.Places.{changed}
use Rattle.bus_medium.specs.Setups.{IsKept}
use Rattle.bus_medium.proofs.Keeping.{leave-kept, rest-leaves, all-changed}
use Rattle.bus_medium.proofs.medium.Medium.leave.Goals as goal

pub invariant_of-self : goal.invariant_of-self
invariant_of-self c =
    let f : Member → Member = changed c.args.node (member_after_leaving) in
    let members = all-changed f c.self.inside.members.items c.deref_mut.result.now c.leave.new.members c.self.inside.members.len
    (omega (arith, c.self.inside.members.ok.0)) (search rules) (search rules) in
    subst IsKept (sym (rest-leaves c.args.self.now _ _ _ f (λ q. not (q.node == c.args.node)) c.self.view_is members c.drop_requests.ensures))
    (leave-kept c.args.self.now c.args.node (subst IsKept c.self.view_is c.self.invariant))
