use Rattle.play_file.specs.Walk.{walk}
use Rattle.play_file.proofs.Files.{walk_exact, one_answer}
use Rattle.play_file.proofs.laws.every_file_has_one_answer.Goals as goal

pub returns-clause-some : goal.returns-clause-some
returns-clause-some c = λ bytes. (walk bytes, walk_exact bytes)

pub returns-clause-one : goal.returns-clause-one
returns-clause-one c = one_answer
