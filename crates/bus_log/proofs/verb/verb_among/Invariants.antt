use Rattle.std.proofs.Common.{◌≡◌, length}
use Rattle.bus_log.specs.Verbs.{named, verb_text}
use Rattle.bus_log.proofs.verb.verb_among.Given as goal

abbrev pub invariant-loop-left : goal.invariant-loop-left
invariant-loop-left l = named verb_text l.left l.word ≡ named verb_text l.verbs l.word

abbrev pub decreases-loop-left : goal.decreases-loop-left
decreases-loop-left l = length l.left
