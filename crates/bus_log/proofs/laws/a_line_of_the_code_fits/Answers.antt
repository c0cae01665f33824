use Rattle.std.proofs.Common.{◌^◌, subst}
use Rattle.log_lines.specs.Lines.{line_of}
use Rattle.bus_log.proofs.Fitting.{IfBelow, fits_from_parts}
use Rattle.bus_log.proofs.laws.a_line_of_the_code_fits.Goals as goal

pub returns : goal.returns
returns c = fits_from_parts (line_of c.args.line.now)
    (subst (IfBelow (2 ^ 64)) c.moment.ensures c.moment_fits.ensures)
    (subst (IfBelow (2 ^ 32)) c.bus.ensures c.number_fits.ensures)
    (subst (IfBelow (2 ^ 32)) c.node.ensures c.number_fits-2.ensures)
    c.told_fits.ensures
