use Rattle.std.proofs.Common.{rules, arith, subst, false}
use Rattle.bus_specs.specs.Bus.{Member}
use Rattle.bus_specs.specs.Submit.{Sleep}
use Rattle.bus_medium.specs.Places.{changed}
use Rattle.bus_medium.specs.Setups.{IsKept}
use Rattle.bus_medium.proofs.Keeping.{submission-leaves, members-leave, all-changed}
use Rattle.bus_medium.proofs.medium.Medium.sleep.Goals as goal

pub invariant_of-self : goal.invariant_of-self
invariant_of-self c =
    let f : Member → Member = changed c.args.node (λ m. record m { awake = false }) in
    let members = all-changed f c.self.inside.members.items c.deref_mut.result.now c.fall_asleep.new.members c.self.inside.members.len
    (omega (arith, c.self.inside.members.ok.0)) (search rules) (search rules) in
    submission-leaves c.args.self.now _ 0 c.args.node Sleep
    (members-leave c.args.self.now _ _ f c.self.view_is members)
    (subst IsKept c.self.view_is c.self.invariant) tt c.requires.live
