use Rattle.std.proofs.Common.{◌++◌, ap, arith, ◌∙◌}
use Rattle.wasm_writer.specs.FlatTexts.{flat_sections_text}
use Rattle.wasm_writer.proofs.Flattened.{sections_small, spelled_locals, spelled_text}
use Rattle.wasm_writer.proofs.writing.write_module.Goals as goal

pub write_sections-requires-clause-small : goal.write_sections-requires-clause-small
write_sections-requires-clause-small c = omega (arith, sections_small c.args.parts.now c.requires)

pub write_sections-requires-clause-locals : goal.write_sections-requires-clause-locals
write_sections-requires-clause-locals c = spelled_locals c.args.parts.now c.requires

pub returns : goal.returns
returns c =
    c.in_ok-write_sections.ensures
    ∙ ap (λ l. l ++ flat_sections_text c.args.parts.now) c.in_ok-out.ensures.items
    ∙ spelled_text c.args.parts.now c.requires
