use Rattle.std.proofs.Common.{arith}
use Rattle.std.proofs.lemmas.Result.{err_from_is_err_and}
use Rattle.wasm_code.proofs.Runs.{goes_on, ends, is_done}
use Rattle.wasm_code.proofs.body.read_runs.Goals as goal
use Rattle.module_specs.specs.CodeReading.{runs_at}

pub returns-in_err-place-clause-is : goal.returns-in_err-place-clause-is
returns-in_err-place-clause-is c =
    let p = err_from_is_err_and c.from_residual.result c.from_residual.ensures.1 in
    rw (p.1, p.2) (ends c.args.body c.args.bytes.now c.loop.locals.items c.args.count c.loop.counter c.loop.place (runs_at c.args.body c.args.bytes.now 4096 c.args.count c.args.at) c.in_err-place.field-0.0 c.loop-test.true c.loop.invariant.most c.in_err-place.ensures.is c.loop.invariant.is)

pub loop-preserved : goal.loop-preserved
loop-preserved c = record {
  from = omega (arith, c.in_ok-place.ensures.next, c.loop.invariant.from);
  place = c.in_ok-place.ensures.next.1;
  most = c.in_ok-place.ensures.most;
  is = goes_on c.args.body c.args.bytes.now c.loop.locals.items c.args.count c.loop.counter c.loop.place (runs_at c.args.body c.args.bytes.now 4096 c.args.count c.args.at) c.read_run.new.locals.items c.in_ok-place.place c.loop-test.true c.loop.invariant.most c.in_ok-place.ensures.is c.loop.invariant.is;
}

pub returns-clause-is : goal.returns-clause-is
returns-clause-is c = rw c.shrink_to_fit.ensures.items (is_done c.args.body c.args.bytes.now c.loop.locals.items c.args.count c.loop.counter c.loop.place (runs_at c.args.body c.args.bytes.now 4096 c.args.count c.args.at) c.loop-test.false c.loop.invariant.is)
