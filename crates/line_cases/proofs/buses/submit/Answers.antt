use Rattle.std.proofs.Common.{◌+◌, sym, subst}
use Rattle.line_cases.specs.Tried.{IsTried}
use Rattle.line_cases.proofs.Tries.{submitted, always}
use Rattle.line_cases.proofs.buses.submit.Goals as goal

pub returns : goal.returns
returns c = always c.spelled.result (subst (λ b. IsTried b (c.args._calls + 1)) (sym c.in_ok-line.ensures.state)
    (submitted c.args.medium.now c.args._calls c.in_ok-now.now c.in_ok-node.node _ c.requires.tried))
