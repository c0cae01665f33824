use Rattle.play_file.proofs.FileLaws.{play_before}
use Rattle.play_file.proofs.laws.the_lines_before_the_refused_one_are_a_play.Goals as goal

pub returns : goal.returns
returns c = play_before
