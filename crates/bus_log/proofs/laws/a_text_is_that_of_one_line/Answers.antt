use Rattle.bus_log.proofs.Exact.{one_line}
use Rattle.bus_log.proofs.laws.a_text_is_that_of_one_line.Goals as goal

pub returns : goal.returns
returns c = one_line
