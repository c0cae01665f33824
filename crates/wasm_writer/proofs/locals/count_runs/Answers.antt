use Rattle.std.proofs.Common.{arith}
use Rattle.wasm_writer.proofs.Loops.{runs_few, first_run-slice, within_slice, run_counts}
use Rattle.wasm_writer.proofs.locals.count_runs.Goals as goal

pub overflow_add-count : goal.overflow_add-count
overflow_add-count c = omega (arith, runs_few c.args.locals.now, c.requires, c.loop-at.invariant.count)

pub loop-at-preserved : goal.loop-at-preserved
loop-at-preserved c =
    let is = first_run-slice c.args.locals.now c.loop-at.at c.first_run-n.result c.first_run-n.ensures.is in
    let within = within_slice c.args.locals.now c.loop-at.at c.first_run-n.result c.first_run-n.ensures.within in
    let step = run_counts c.args.locals.now c.loop-at.at c.first_run-n.result c.loop-at-test.true is within in
    record {
      place = step.place;
      count = omega (arith, step.number, c.loop-at.invariant.count);
      len = omega (arith, step.size, c.number_len.ensures.is, c.loop-at.invariant.len);
    }
