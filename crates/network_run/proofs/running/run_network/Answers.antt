use Rattle.std.proofs.Common.{rules, ◌≡◌, ◌∙◌, map, subst}
use Rattle.log_specs.specs.Line.{line_text}
use Rattle.log_writing.proofs.Writes.{if_ok}
use Rattle.log_writing.specs.Written.{WritesOrBreaksOff}
use Rattle.network_run.proofs.Guests.{lines-of, status-of, units-of-codes}
use Rattle.network_run.proofs.running.run_network.Goals as goal

pub returns-clause-written : goal.returns-clause-written
returns-clause-written g c =
    let all : c.network.inside.0.0.events ≡ c.args.network.plan.events = search rules in
    let lines = lines-of c.args.network.plan c.args.network.codes.items c.in_ok-world.world _ c.in_ok-world.ensures all in
    subst (λ ls. WritesOrBreaksOff g.O.Sink c.args.out.now c.run.new.out (map line_text ls) c.run.result) lines c.run.ensures.written

pub returns-clause-ending : goal.returns-clause-ending
returns-clause-ending g c =
    let all : c.network.inside.0.0.events ≡ c.args.network.plan.events = search rules in
    let status = status-of c.args.network.plan c.args.network.codes.items c.in_ok-world.world _ c.in_ok-world.ensures all in
    if_ok c.run.result (λ e is. is ∙ status) c.run.ensures.ending

pub open_world-requires-clause-units : goal.open_world-requires-clause-units
open_world-requires-clause-units g c = units-of-codes c.args.network.codes.items c.requires.sound.units
