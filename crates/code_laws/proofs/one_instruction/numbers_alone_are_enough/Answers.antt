use Rattle.code_laws.proofs.Bare.{bare_is}
use Rattle.code_laws.proofs.one_instruction.numbers_alone_are_enough.Goals as goal

pub returns : goal.returns
returns c = bare_is
