use Rattle.std.proofs.lemmas.List.Folds.{flat_map-map}
use Rattle.log_specs.specs.Line.{line_text}
use Rattle.ideal_specs.specs.Ideal.{ideal_lines}
use Rattle.bench_top.proofs.running.the_lines_of_a_run_are_its_log.Goals as goal

pub returns : goal.returns
returns c = λ n. flat_map-map (λ line. line) line_text (ideal_lines n)
