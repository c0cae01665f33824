use Rattle.std.proofs.Common.{◌≡◌, drop, take, ◌++◌}
use Rattle.std.specs.Prelude.{option_map}
use Rattle.frame_specs.specs.FrameReading.{cut}
use Rattle.plain_text.proofs.cutting.find.Given as goal

-- The separator isn't among the bytes so far.
abbrev pub invariant-loop-i : goal.invariant-loop-i
invariant-loop-i l =
    option_map (λ p. (take l.i l.text ++ p.0, p.1)) (cut l.separator (drop l.i l.text)) ≡ cut l.separator l.text
