use Rattle.std.proofs.Common.{◌+◌, ap, arith, ◌∙◌}
use Rattle.wasm_writer.proofs.Flattened.{sections_small, spelled_length}
use Rattle.wasm_writer.proofs.writing.shortest_len.Goals as goal

pub sections_len-requires : goal.sections_len-requires
sections_len-requires c = omega (arith, sections_small c.args.parts.now c.requires)

pub overflow_add-result : goal.overflow_add-result
overflow_add-result c = omega (arith, sections_small c.args.parts.now c.requires, c.sections_len.ensures)

pub returns : goal.returns
returns c = ap (λ n. 8 + n) c.sections_len.ensures ∙ spelled_length c.args.parts.now c.requires
