use Rattle.std.proofs.Common.{rules, arith, subst}
use Rattle.bus_specs.specs.Bus.{Member}
use Rattle.bus_medium.specs.Places.{changed}
use Rattle.bus_medium.specs.Setups.{IsKept}
use Rattle.bus_medium.proofs.Keeping.{discard-leaves, members-leave, all-changed}
use Rattle.bus_medium.proofs.medium.Medium.discard.Goals as goal

pub invariant_of-self : goal.invariant_of-self
invariant_of-self c =
    let f : Member → Member = changed c.args.node (λ m. record m { discards = c.args.discards }) in
    let members = all-changed f c.self.inside.members.items c.deref_mut.result.now c.set_discards.new.members c.self.inside.members.len
    (omega (arith, c.self.inside.members.ok.0)) (search rules) (search rules) in
    discard-leaves c.args.self.now _ c.args.now c.args.node c.args.discards
    (members-leave c.args.self.now _ _ f c.self.view_is members)
    (subst IsKept c.self.view_is c.self.invariant) c.requires.live
