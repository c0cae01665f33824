use Rattle.std.proofs.lemmas.Result.{err_from_is_err_and}
use Rattle.module_specs.specs.ModuleReading.{bodies_at}
use Rattle.wasm_reader.specs.Flat.{flat_funcs}
use Rattle.wasm_reader.proofs.BodyLoop.{goes_on, ends, is_done}
use Rattle.wasm_reader.proofs.bodies.read_bodies.Goals as goal

pub returns-in_err-func-clause-is : goal.returns-in_err-func-clause-is
returns-in_err-func-clause-is c =
    let p = err_from_is_err_and c.from_residual.result c.from_residual.ensures.1 in
    rw (p.1, p.2) (ends c.args.indices.now c.args.bytes.now c.loop-ty.ty-index c.loop-ty.place c.loop-ty.funcs.items (flat_funcs (bodies_at c.args.indices.now c.args.bytes.now c.args.at)) c.loop-ty-test.true c.in_err-func.field-0.0 c.in_err-func.ensures.is c.loop-ty.invariant.is)

pub loop-ty-preserved : goal.loop-ty-preserved
loop-ty-preserved c = record {
  place = c.in_ok-func.ensures.next;
  is = rw c.in_ok-push.ensures.items (goes_on c.args.indices.now c.args.bytes.now c.loop-ty.ty-index c.loop-ty.place c.loop-ty.funcs.items (flat_funcs (bodies_at c.args.indices.now c.args.bytes.now c.args.at)) c.loop-ty-test.true c.in_ok-func.func c.in_ok-func.next c.in_ok-func.ensures.is c.loop-ty.invariant.is);
}

pub returns-clause-is : goal.returns-clause-is
returns-clause-is c = is_done c.args.indices.now c.args.bytes.now c.loop-ty.ty-index c.loop-ty.place c.loop-ty.funcs.items (flat_funcs (bodies_at c.args.indices.now c.args.bytes.now c.args.at)) c.loop-ty-test.false c.loop-ty.invariant.is
