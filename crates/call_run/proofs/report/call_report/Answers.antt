use Rattle.std.proofs.Common.{◌≡◌, sym, ap, ◌∙◌}
use Rattle.std.specs.Prelude.{Err}
use Rattle.wasm_types.specs.Back.{nested_module}
use Rattle.call_run.proofs.Reading.{read_as}
use Rattle.call_run.proofs.Chosen.{arguments_fit}
use Rattle.call_run.proofs.report.call_report.Goals as goal

pub returns-in-Err-find_called-clause-refused : goal.returns-in-Err-find_called-clause-refused
returns-in-Err-find_called-clause-refused c = λ fault e.
    let code = c.in-Ok.code in
    let read = read_as code c.args.bytes.now c.in-Ok.ensures.found in
    let same : c.in-Err-find_called.fault ≡ fault = cc in (
      nested_module code,
      read.0,
      read.1,
      sym c.find_called.ensures ∙ c.in-Err-find_called.is ∙ ap (λ x. Err x) same,
    )

pub line_of-requires-clause-fits : goal.line_of-requires-clause-fits
line_of-requires-clause-fits c =
    arguments_fit c.in-Ok.code c.args.name.now c.in-Ok-find_called.index c.args.arguments.now (sym c.find_called.ensures ∙ c.in-Ok-find_called.is)

pub returns-in-Ok-line_of-clause-line : goal.returns-in-Ok-line_of-clause-line
returns-in-Ok-line_of-clause-line c =
    let code = c.in-Ok.code in
    let read = read_as code c.args.bytes.now c.in-Ok.ensures.found in (
      nested_module code,
      c.in-Ok-find_called.index,
      read.0,
      read.1,
      sym c.find_called.ensures ∙ c.in-Ok-find_called.is,
      c.in-Ok-line_of.ensures,
    )
