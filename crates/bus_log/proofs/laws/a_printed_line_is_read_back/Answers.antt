use Rattle.std.proofs.Common.{Some, refl}
use Rattle.log_specs.specs.Line.{line_text}
use Rattle.bus_log.proofs.Exact.{one_answer}
use Rattle.bus_log.proofs.laws.a_printed_line_is_read_back.Goals as goal

pub returns : goal.returns
returns c = λ line answer is fits read. one_answer (line_text line) answer (Some line) read record
    { is_line = is; fits = fits; spelled = refl }
