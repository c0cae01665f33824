use Rattle.std.proofs.Common.{◌≡◌, ◌++◌, length}
use Rattle.std.specs.Prelude.{map}
use Rattle.plain_text.specs.Parts.{parts}
use Rattle.plain_text.proofs.cutting.parts.Given as goal

-- The parts so far and those of the rest are the whole.
abbrev pub invariant-loop-part : goal.invariant-loop-part
invariant-loop-part l = map (λ w. w.now) l.parts.items ++ parts l.separator l.rest ≡ parts l.separator l.text

abbrev pub decreases-loop-part : goal.decreases-loop-part
decreases-loop-part l = length l.rest
