use Rattle.std.proofs.lemmas.Result.{err_from_is_err_and}
use Rattle.wasm_reader.proofs.Rest.{finishes, no_sections}
use Rattle.wasm_reader.proofs.module.read_rest.Goals as goal

pub returns-in_err-sofar : goal.returns-in_err-sofar
returns-in_err-sofar c =
    let p = err_from_is_err_and c.from_residual.result c.from_residual.ensures.1 in
    rw (p.1, p.2) (no_sections c.args.bytes.now c.args.at c.in_err-sofar.field-0.0 c.in_err-sofar.ensures)

pub returns : goal.returns
returns c = finishes c.args.bytes.now c.args.at c.in_ok-sofar.sofar c.finish.result c.finish.ensures c.in_ok-sofar.ensures
