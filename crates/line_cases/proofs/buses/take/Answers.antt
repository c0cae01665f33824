use Rattle.std.proofs.Common.{◌+◌, sym, subst}
use Rattle.line_cases.specs.Tried.{IsTried}
use Rattle.line_cases.proofs.Tries.{taken}
use Rattle.line_cases.proofs.buses.take.Goals as goal

pub returns : goal.returns
returns c = subst (λ b. IsTried b (c.args._calls + 1)) (sym c.in_ok-lines.ensures.state)
    (taken c.args.medium.now c.args._calls c.in_ok-now.now c.in_ok-node.node c.requires)
