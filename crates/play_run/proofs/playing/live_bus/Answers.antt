use Rattle.std.proofs.Common.{rules, ◌≡◌, true, sym, subst, All}
use Rattle.bus_specs.specs.Bus.{member_is, new_bus}
use Rattle.bus_medium.specs.Setups.{setup_of}
use Rattle.play_run.proofs.Submitting.{new-members}
use Rattle.play_run.proofs.playing.live_bus.Goals as goal

pub enter_all-requires : goal.enter_all-requires
enter_all-requires c =
    let members = new-members (setup_of c.args.setup) c.args.setup.members in
    record { members = rw c.in_ok-medium.ensures (subst (λ ns. All (λ n. member_is (λ m. true) (new_bus (setup_of c.args.setup) c.args.setup.members).members n ≡ true) ns) c.requires.nodes members) }
