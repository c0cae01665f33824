use Rattle.log_lines.specs.Lines.{line_of}
use Rattle.bus_log.proofs.Exact.{found_of, only_of}
use Rattle.bus_log.proofs.reading.read_line.Goals as goal

pub returns-clause-found : goal.returns-clause-found
returns-clause-found c = found_of line_of c.args.bytes.now c.line_in_text.result c.line_in_text.ensures

pub returns-clause-only : goal.returns-clause-only
returns-clause-only c = λ line spells. only_of line_of c.args.bytes.now line c.line_in_text.result c.line_in_text.ensures spells
