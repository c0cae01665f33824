use Rattle.std.proofs.Common.{rules, ◌≡◌, map}
use Rattle.bus_specs.specs.Bus.{new_member}
use Rattle.bus_medium.proofs.Opening.{new_bus-kept}
use Rattle.bus_medium.proofs.medium.Medium.new.Goals as goal

pub invariant_of-result : goal.invariant_of-result
invariant_of-result c =
    let items : c.in_ok-members.members.items ≡ map new_member c.args.setup.members = search rules in
    rw (items, c.new.ensures.items) (new_bus-kept c.args.setup c.requires.well_formed)
