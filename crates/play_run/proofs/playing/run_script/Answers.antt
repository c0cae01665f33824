use Rattle.std.proofs.Common.{rules, ◌≡◌, ◌∙◌}
use Rattle.bus_medium.specs.Setups.{setup_of}
use Rattle.play_run.proofs.Submitting.{first-ready}
use Rattle.play_run.proofs.playing.run_script.Goals as goal

pub run_on-requires-clause-ready : goal.run_on-requires-clause-ready
run_on-requires-clause-ready g c =
    let r = c.requires.runnable in
    let s = c.args.script in
    rw (c.new.ensures, c.in_ok-medium.ensures) (first-ready (setup_of s.setup) s.setup.members s.nodes s.actions.items r.nodes r.actions r.rises r.few)
