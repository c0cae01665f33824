use Rattle.frame_specs.proofs.FrameReadingLaws.{frame_of_from_spells, spells_from_frame_of}
use Rattle.can_frame.proofs.laws.a_text_is_read_as_what_it_spells.Goals as goal

pub returns : goal.returns
returns c = λ text f. (spells_from_frame_of text f, frame_of_from_spells text f)
