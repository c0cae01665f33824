use Rattle.std.proofs.Common.{◌+◌, Some, ap, sym, subst, ◌∙◌}
use Rattle.bus_specs.specs.Due.{at}
use Rattle.bus_medium.specs.Dues.{what_of}
use Rattle.log_writing.proofs.Writes.{on_ok}
use Rattle.line_cases.specs.Tried.{IsTried}
use Rattle.line_cases.proofs.Tries.{finished, recovered, started}
use Rattle.line_cases.proofs.buses.happen.Goals as goal

pub finish-requires-clause-due : goal.finish-requires-clause-due
finish-requires-clause-due c = (c.args._now, c.requires.due ∙ ap (λ k. Some (at (what_of k) c.args.due.moment)) c.in-Finish.is)

pub start-requires-clause-due : goal.start-requires-clause-due
start-requires-clause-due c = (c.args._now, c.requires.due ∙ ap (λ k. Some (at (what_of k) c.args.due.moment)) c.in-Start.is)

pub recover-requires : goal.recover-requires
recover-requires c = record { due = (c.args._now, c.requires.due ∙ ap (λ k. Some (at (what_of k) c.args.due.moment)) c.in-Return.is) }

pub returns-in-Finish : goal.returns-in-Finish
returns-in-Finish c = on_ok c.finish.result (λ same. subst (λ b. IsTried b (c.args._calls + 1)) (sym same)
    (finished c.args.medium.now c.args._calls c.args.due.moment c.requires.tried)) c.finish.ensures.state

pub returns-in-Return : goal.returns-in-Return
returns-in-Return c = on_ok c.recover.result (λ same. subst (λ b. IsTried b (c.args._calls + 1)) (sym same)
    (recovered c.args.medium.now c.args._calls c.args.due.moment c.in-Return.node c.requires.tried)) c.recover.ensures.state

pub returns-in-Start : goal.returns-in-Start
returns-in-Start c = on_ok c.start.result (λ same. subst (λ b. IsTried b (c.args._calls + 1)) (sym same)
    (started c.args.medium.now c.args._calls c.args.due.moment c.requires.tried)) c.start.ensures.state
