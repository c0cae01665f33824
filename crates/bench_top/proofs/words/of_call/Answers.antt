use Rattle.std.proofs.Common.{◌∙◌, sym, ap}
use Rattle.std.specs.Prelude.{string_bytes}
use Rattle.plain_text.specs.Decimal.{number_in}
use Rattle.call_specs.specs.CallWords.{most_fuel}
use Rattle.bench_top.proofs.CallForms.{is_form, at_err}
use Rattle.bench_top.proofs.words.of_call.Goals as goal

pub returns-in_err-arguments-clause-memory : goal.returns-in_err-arguments-clause-memory
returns-in_err-arguments-clause-memory c =
    at_err c.from_residual.result (λ e. is_form string_bytes c.args.words.now c.fuel-item.result c.in-Some.fuel c.in-len3-up.len_at_least
    (ap (number_in 0 most_fuel) (ap string_bytes (sym c.fuel-item.is) ∙ sym c.as_bytes.ensures.value) ∙ sym c.number_in.ensures.value
    ∙ c.in-Some.is)
    (sym c.are_arguments.ensures ∙ c.if-not-are_arguments.false))
