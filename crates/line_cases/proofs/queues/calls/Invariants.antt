use Rattle.std.specs.Prelude.{◌≡◌, length}
use Rattle.line_cases.proofs.queues.calls.Given as goal

abbrev pub invariant-loop-call : goal.invariant-loop-call
invariant-loop-call l = length l.queue ≡ l.entries
