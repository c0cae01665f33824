use Rattle.std.proofs.Common.{refl}
use Rattle.bus_log.specs.Reading.{line_of_text}
use Rattle.bus_log.proofs.Exact.{read_as, one_answer}
use Rattle.bus_log.proofs.laws.every_text_has_one_answer.Goals as goal

pub returns-clause-some : goal.returns-clause-some
returns-clause-some c = λ text. (line_of_text text, read_as text (line_of_text text) refl)

pub returns-clause-one : goal.returns-clause-one
returns-clause-one c = one_answer
