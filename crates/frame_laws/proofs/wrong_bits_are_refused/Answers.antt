use Rattle.frame_laws.proofs.Refused.{uncounted-refused, six-refused, lowest-first-refused, short-refused, next-to-last-refused}
use Rattle.frame_laws.proofs.wrong_bits_are_refused.Goals as goal

pub returns-clause-uncounted : goal.returns-clause-uncounted
returns-clause-uncounted c = uncounted-refused

pub returns-clause-at_six : goal.returns-clause-at_six
returns-clause-at_six c = six-refused

pub returns-clause-lowest_first : goal.returns-clause-lowest_first
returns-clause-lowest_first c = lowest-first-refused

pub returns-clause-one_bit_short : goal.returns-clause-one_bit_short
returns-clause-one_bit_short c = short-refused

pub returns-clause-next_to_last : goal.returns-clause-next_to_last
returns-clause-next_to_last c = next-to-last-refused
