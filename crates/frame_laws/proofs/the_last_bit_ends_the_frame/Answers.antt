use Rattle.frame_laws.proofs.Times.{last, length-times}
use Rattle.frame_laws.proofs.the_last_bit_ends_the_frame.Goals as goal

pub returns-clause-last : goal.returns-clause-last
returns-clause-last c = last

pub returns-clause-times : goal.returns-clause-times
returns-clause-times c = length-times
