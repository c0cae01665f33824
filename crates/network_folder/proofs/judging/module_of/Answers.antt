use Rattle.std.proofs.Common.{◌≡◌, ap, sym, ◌∙◌}
use Rattle.std.specs.Prelude.{Err}
use Rattle.wasm_validate.specs.declared.invalid.Invalid.TheVariants as invalid
use Rattle.network_folder.specs.declared.error.NetError.TheVariants.{Refused}
use Rattle.network_folder.specs.Outcomes.{refused_if}
use Rattle.network_folder.proofs.Judged.{unreadable, invalid_said, misfit_said, unbound_said, unit_said}
use Rattle.network_folder.proofs.judging.module_of.Goals as goal

pub returns-in-Err : goal.returns-in-Err
returns-in-Err c =
    unreadable c.args.node c.args.description.now c.args.bytes.now c.in-Err.error c.refused_if.result c.in-Err.ensures.exact (c.refused_if.ensures ∙ ap refused_if c.read_refusal.ensures)

pub returns-in-Err-Rule : goal.returns-in-Err-Rule
returns-in-Err-Rule c =
    let fails = c.validate.ensures.refused c.in-Err-Rule.rule c.in-Err-Rule.place c.in-Err-Rule.at (c.in-Err-Rule.is ∙ ap (λ i. Err i) c.in-Err-Rule.field-0-is) in
    invalid_said c.args.node c.args.description.now c.args.bytes.now c.in-Ok.module (record { rule = c.in-Err-Rule.rule; place = c.in-Err-Rule.place; at = c.in-Err-Rule.at }) c.in-Ok.ensures.found fails
    ∙ ap (λ r. Err (Refused r)) (sym c.rule_refusal.ensures)

pub returns-in-Err-fits : goal.returns-in-Err-fits
returns-in-Err-fits c =
    misfit_said c.args.node c.args.description.now c.args.bytes.now c.in-Ok.module c.in-Ok-validate.code c.in-Err-fits.misfit c.in-Ok.ensures.found c.in-Ok-validate.ensures.valid c.in-Err-fits.ensures.misfit
    ∙ ap (λ r. Err (Refused r)) (sym c.misfit_refusal.ensures)

pub returns-in-Err-check : goal.returns-in-Err-check
returns-in-Err-check c =
    unbound_said c.args.node c.args.description.now c.args.bytes.now c.in-Ok.module c.in-Ok-validate.code c.in-Err-check.error c.in-Ok.ensures.found c.in-Ok-validate.ensures.valid c.in_default.ensures.fits c.in-Err-check.ensures.refused
    ∙ ap (λ r. Err (Refused r)) (sym c.unbound_refusal.ensures)

pub returns : goal.returns
returns c =
    unit_said c.args.node c.args.description.now c.args.bytes.now c.in-Ok.module c.in-Ok-validate.code c.in-Ok.ensures.found c.in-Ok-validate.ensures.valid c.in_default.ensures.fits c.in_default-check.ensures.bound
