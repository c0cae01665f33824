use Rattle.std.proofs.Common.{rules, arith, subst, sym, true}
use Rattle.bus_specs.specs.Bus.{Member}
use Rattle.bus_medium.specs.Places.{changed}
use Rattle.bus_medium.specs.Setups.{IsKept}
use Rattle.bus_medium.proofs.Keeping.{enter-kept, members-leave, all-changed}
use Rattle.bus_medium.proofs.medium.Medium.enter.Goals as goal

pub invariant_of-self : goal.invariant_of-self
invariant_of-self c =
    let f : Member → Member = changed c.args.node (λ m. record m { live = true }) in
    let members = all-changed f c.self.inside.members.items c.deref_mut.result.now c.become_live.new.members c.self.inside.members.len
    (omega (arith, c.self.inside.members.ok.0)) (search rules) (search rules) in
    subst IsKept (sym (members-leave c.args.self.now _ _ f c.self.view_is members))
    (enter-kept c.args.self.now c.args.node (subst IsKept c.self.view_is c.self.invariant))
