use Rattle.std.proofs.lemmas.List.Folds.{flat_map-map}
use Rattle.log_specs.specs.Line.{line_text}
use Rattle.play_specs.specs.Play.{play_lines}
use Rattle.bench_top.proofs.playing.the_lines_of_a_play_are_its_log.Goals as goal

pub returns : goal.returns
returns c = λ events p. flat_map-map (λ line. line) line_text (play_lines events p)
