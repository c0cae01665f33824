use Rattle.std.proofs.Common.{refl}
use Rattle.frame_specs.specs.FrameText.{frame_text}
use Rattle.frame_specs.proofs.FrameReadingLaws.{frame_of_from_spells}
use Rattle.can_frame.proofs.laws.a_printed_frame_is_read_back.Goals as goal

pub returns : goal.returns
returns c = λ f fits small.
    frame_of_from_spells (frame_text f) f record { well_formed = fits; bytes = small; spelled = refl }
