use Rattle.std.proofs.Common.{Ok, refl}
use Rattle.play_specs.specs.PlayText.{play_text}
use Rattle.play_file.proofs.Files.{one_answer}
use Rattle.play_file.proofs.laws.the_text_of_a_play_is_read_as_it.Goals as goal

pub returns : goal.returns
returns c = λ p answer is read. one_answer (play_text p) answer (Ok p) read (is, refl)
