use Rattle.wasm_writer.proofs.Loops.{first_run-slice, within_slice, run_counts, run_written}
use Rattle.wasm_writer.proofs.locals.write_runs.Goals as goal

pub loop-at-preserved : goal.loop-at-preserved
loop-at-preserved c =
    let is = first_run-slice c.args.locals.now c.loop-at.at c.first_run-n.result c.first_run-n.ensures.is in
    let within = within_slice c.args.locals.now c.loop-at.at c.first_run-n.result c.first_run-n.ensures.within in
    let step = run_counts c.args.locals.now c.loop-at.at c.first_run-n.result c.loop-at-test.true is within in
    record {
      place = step.place;
      is = run_written c.args.locals.now c.loop-at.at c.first_run-n.result _ c.loop-at.out.items _ _ _ _ c.loop-at-test.true is c.type_byte.ensures c.in_ok-write_number.ensures c.in_ok-push.ensures.items c.loop-at.invariant.is;
    }
