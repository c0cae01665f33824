use Rattle.std.proofs.Common.{◌≡◌, Some, ap, ◌∙◌, arith, rules}
use Rattle.bus_specs.specs.Due.{Finish, Return, Start, at}
use Rattle.bus_medium.specs.Dues.{due_of, what_of}
use Rattle.play_specs.specs.Scenario.{next_event}
use Rattle.play_run.specs.Worlds.{world_of}
use Rattle.play_run.proofs.Nexts.{next-due}
use Rattle.play_run.proofs.Lasting.{moment-parts, left-parts}
use Rattle.play_run.proofs.runner.Runner.event.Goals as goal

pub finish-requires-clause-due : goal.finish-requires-clause-due
finish-requires-clause-due c =
    let m = c.args.due.moment in
    let w = world_of c.args.self.now in
    let next : next_event c.requires.next.0 w ≡ Some (at Finish m) = c.requires.next.1 ∙ ap (λ k. Some (at (what_of k) m)) c.in-Finish.is in
    (w.now, next-due (at Finish m) (λ e. omega arith) w c.requires.next.0 next)

pub start-requires-clause-due : goal.start-requires-clause-due
start-requires-clause-due c =
    let m = c.args.due.moment in
    let w = world_of c.args.self.now in
    let next : next_event c.requires.next.0 w ≡ Some (at Start m) = c.requires.next.1 ∙ ap (λ k. Some (at (what_of k) m)) c.in-Start.is in
    (w.now, next-due (at Start m) (λ e. omega arith) w c.requires.next.0 next)

pub recover-requires : goal.recover-requires
recover-requires c =
    let m = c.args.due.moment in
    let w = world_of c.args.self.now in
    let next : next_event c.requires.next.0 w ≡ Some (at (Return c.in-Return.node) m) = c.requires.next.1 ∙ ap (λ k. Some (at (what_of k) m)) c.in-Return.is in
    record { due = (w.now, next-due (at (Return c.in-Return.node) m) (λ e. omega arith) w c.requires.next.0 next) }

pub returns-in-Notices-clause-bus : goal.returns-in-Notices-clause-bus
returns-in-Notices-clause-bus c =
    let parts = moment-parts (world_of c.args.self.now) c.requires.next.0 (due_of c.args.due) c.requires.ready.rises c.requires.next.1 in
    rw (c.in-Notices.is, parts) c.moment_lines.ensures.bus

pub returns-in-Notices-clause-ahead : goal.returns-in-Notices-clause-ahead
returns-in-Notices-clause-ahead c =
    let parts = left-parts (world_of c.args.self.now) c.requires.next.0 (due_of c.args.due) c.requires.ready.rises c.requires.next.1 in
    rw (c.in-Notices.is, parts) c.moment_lines.ensures.ahead

pub returns-in-Notices-clause-lines : goal.returns-in-Notices-clause-lines
returns-in-Notices-clause-lines c =
    let parts = moment-parts (world_of c.args.self.now) c.requires.next.0 (due_of c.args.due) c.requires.ready.rises c.requires.next.1 in
    rw (c.in-Notices.is, parts) c.moment_lines.ensures.lines
