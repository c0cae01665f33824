use Rattle.log_lines.specs.Lines.{line_of}
use Rattle.bus_log.proofs.Fitting.{read_back}
use Rattle.bus_log.proofs.laws.a_line_of_the_code_is_read_back.Goals as goal

pub returns : goal.returns
returns c = read_back (line_of c.args.line.now) c.a_line_of_the_code_fits.ensures
