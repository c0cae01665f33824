use Rattle.frame_specs.proofs.FrameReadingLaws.{same_from_spells}
use Rattle.can_frame.proofs.laws.a_text_is_that_of_one_frame.Goals as goal

pub returns : goal.returns
returns c = same_from_spells
