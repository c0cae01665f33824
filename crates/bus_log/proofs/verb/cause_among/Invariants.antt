use Rattle.std.proofs.Common.{◌≡◌, length}
use Rattle.log_specs.specs.Line.{cause_text}
use Rattle.log_lines.specs.Lines.{cause_of}
use Rattle.bus_log.specs.Verbs.{named}
use Rattle.bus_log.proofs.verb.cause_among.Given as goal

abbrev pub invariant-loop-left : goal.invariant-loop-left
invariant-loop-left l = named (λ c. cause_text (cause_of c)) l.left l.word ≡ named (λ c. cause_text (cause_of c)) l.causes l.word

abbrev pub decreases-loop-left : goal.decreases-loop-left
decreases-loop-left l = length l.left
