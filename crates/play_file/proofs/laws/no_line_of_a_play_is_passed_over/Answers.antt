use Rattle.play_file.proofs.FileLaws.{lines_of_play}
use Rattle.play_file.proofs.laws.no_line_of_a_play_is_passed_over.Goals as goal

pub returns : goal.returns
returns c = lines_of_play
