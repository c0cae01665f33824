use Rattle.std.proofs.Common.{arith}
use Rattle.play_file.proofs.FileLaws.{line_inside}
use Rattle.play_file.proofs.laws.the_refused_line_is_in_the_file.Goals as goal

pub returns-clause-counted : goal.returns-clause-counted
returns-clause-counted c = λ bytes n refused. omega (arith, refused.number)

pub returns-clause-inside : goal.returns-clause-inside
returns-clause-inside c = line_inside
