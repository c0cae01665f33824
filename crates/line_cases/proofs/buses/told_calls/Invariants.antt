use Rattle.line_cases.specs.Tried.{IsTried}
use Rattle.line_cases.proofs.buses.told_calls.Given as goal

abbrev pub invariant-loop-call : goal.invariant-loop-call
invariant-loop-call l = IsTried l.medium l.calls
