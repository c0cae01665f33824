use Rattle.fmi_binding.specs.Ecus.{IsIn}
use Rattle.guest_cases.proofs.running.calls.Given as goal

abbrev pub invariant-loop-words : goal.invariant-loop-words
invariant-loop-words l = IsIn l.unit l.shared
