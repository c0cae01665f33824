use Rattle.std.proofs.Common.{◌≡◌, ◌∙◌, ap, sym, subst}
use Rattle.std.specs.Prelude.{Err}
use Rattle.wasm_types.specs.Modules.{NestedModule}
use Rattle.code_specs.specs.Validity.{IsValid, validity}
use Rattle.wasm_validate.specs.declared.checked.Checked.{Checked}
use Rattle.wasm_validate.specs.declared.invalid.Invalid.{Invalid}
use Rattle.wasm_validate.specs.declared.invalid.Invalid.TheVariants as invalid
use Rattle.module_report.proofs.Reported.{read_is, nested_is}
use Rattle.module_report.proofs.report.read_checked.Goals as goal

pub returns-in-Ok-validate-clause-found : goal.returns-in-Ok-validate-clause-found
returns-in-Ok-validate-clause-found c =
    let found = c.in-Ok.ensures.found in
    let valid = c.in-Ok-validate.ensures.valid in (
      found.0,
      valid.0 ∙ found.1,
      found.2,
      subst IsValid (nested_is found.0 c.args.bytes.now c.in-Ok.module found.1 found.2) valid.1,
    )

pub returns-in-Err-validate-clause-invalid : goal.returns-in-Err-validate-clause-invalid
returns-in-Err-validate-clause-invalid c = λ rule place at e.
    let found = c.in-Ok.ensures.found in
    let same : c.in-Err-validate.invalid ≡ invalid.Rule rule place at = cc in
    let refused = c.validate.ensures.refused rule place at (c.in-Err-validate.is ∙ ap (λ i. Err i) same) in (
      found.0,
      read_is found.0 c.args.bytes.now found.2,
      sym (ap validity (nested_is found.0 c.args.bytes.now c.in-Ok.module found.1 found.2)) ∙ refused,
    )
