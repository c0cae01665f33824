use Rattle.std.proofs.Common.{ap, ◌∙◌}
use Rattle.std.specs.Prelude.{Err}
use Rattle.bench_outside.specs.declared.refusal.FileId.TheVariants.{Description}
use Rattle.refusal_names.specs.Modules.{refusal}
use Rattle.network_folder.specs.declared.error.NetError.TheVariants.{Refused}
use Rattle.network_folder.proofs.Judged.{description_says}
use Rattle.network_folder.proofs.judging.description_of.Goals as goal

pub returns-in-Err-Field : goal.returns-in-Err-Field
returns-in-Err-Field c =
    let known = c.read_description.ensures.refused c.in-Err-Field.field c.in-Err-Field.place (c.in-Err-Field.is ∙ ap (λ x. Err x) c.in-Err-Field.field-0-is) in
    description_says (λ d. d) c.args.node c.args.bytes.now c.in-Err-Field.field c.in-Err-Field.place c.refused.result known
    (c.refused.ensures ∙ ap (λ w. Refused (refusal (Description c.args.node) w c.in-Err-Field.place)) c.description_why.ensures)
