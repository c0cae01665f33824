use Rattle.std.proofs.Common.{◌∙◌}
use Rattle.module_report.proofs.Reported.{read_is, line_is}
use Rattle.module_report.proofs.report.module_report.Goals as goal

pub returns-in-Ok-clause-line : goal.returns-in-Ok-clause-line
returns-in-Ok-clause-line c =
    let found = c.in_ok-checked.ensures.found in
    let m = found.0 in (
      m,
      line_is m c.args.bytes.now c.«module».result.now c.in-Ok.line.items (c.«module».ensures.same ∙ found.1) found.2 c.in-Ok.ensures,
      read_is m c.args.bytes.now found.2,
      found.3,
    )
