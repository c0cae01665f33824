use Rattle.std.proofs.Common.{◌≡◌, Option, Some, None, sym, ◌∙◌, List, ℕ}
use Rattle.std.specs.Prelude.{IfSome}
use Rattle.frame_specs.specs.Frame.{Frame}
use Rattle.frame_specs.specs.FrameReading.{Spells, frame_of}
use Rattle.frame_specs.proofs.FrameReadingLaws.{frame_of_from_spells, spells_from_frame_of}
use Rattle.can_frame.proofs.frame.Frame.read.Goals as goal

found : (text : List ℕ) (answer : Option Frame) → answer ≡ frame_of text → IfSome answer (λ f. Spells text f)
found text (Some f) read = spells_from_frame_of text f (sym read)
found text None read = tt

pub returns-clause-found : goal.returns-clause-found
returns-clause-found c = found c.args.text.now _ c.in_ok-frame_in.ensures

pub returns-clause-only : goal.returns-clause-only
returns-clause-only c = λ f spells. c.in_ok-frame_in.ensures ∙ frame_of_from_spells c.args.text.now f spells
