use Rattle.std.proofs.Common.{rules, subst}
use Rattle.bus_specs.specs.Submit.{Transmit}
use Rattle.bus_medium.specs.Setups.{IsKept}
use Rattle.bus_medium.proofs.Keeping.{submission-leaves}
use Rattle.bus_medium.proofs.medium.Medium.request.Goals as goal

pub invariant_of-self-in-Accepted : goal.invariant_of-self-in-Accepted
invariant_of-self-in-Accepted c =
    submission-leaves c.args.self.now _ c.args.now c.args.node (Transmit c.args.frame) (search rules)
    (subst IsKept c.self.view_is c.self.invariant) c.requires.fits c.requires.live
