use Rattle.play_file.proofs.FileLaws.{one_frame_isn't_exact}
use Rattle.play_file.proofs.laws.a_reader_with_one_fixed_frame_is_wrong.Goals as goal

pub returns : goal.returns
returns c = one_frame_isn't_exact
