use Rattle.play_file.proofs.FileLaws.{unchanged}
use Rattle.play_file.proofs.laws.what_stands_behind_the_refused_line_changes_nothing.Goals as goal

pub returns : goal.returns
returns c = unchanged
