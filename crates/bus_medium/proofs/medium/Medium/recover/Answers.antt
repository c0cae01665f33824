use Rattle.std.proofs.Common.{◌==◌, if◌then◌else◌, rules, arith, subst}
use Rattle.bus_specs.specs.Bus.{Member}
use Rattle.bus_specs.specs.Finish.{member_after_return}
use Rattle.bus_medium.specs.Setups.{IsKept}
use Rattle.bus_medium.proofs.Ended.{recover-state, all-after}
use Rattle.bus_medium.proofs.medium.Medium.recover.Goals as goal

pub invariant_of-self : goal.invariant_of-self
invariant_of-self c =
    let back : Member → Member = λ m. if m.node == c.args.node then member_after_return m else m in
    recover-state c.args.self.now _ c.args.node _ c.self.view_is
    (all-after back c.self.inside.members.items c.deref_mut.result.now c.come_back.new.members c.self.inside.members.len
    (omega (arith, c.self.inside.members.ok.0)) (search rules) (search rules))
    (subst IsKept c.self.view_is c.self.invariant)
