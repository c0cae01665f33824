use Rattle.std.proofs.Common.{arith}
use Rattle.wasm_writer.proofs.LeastLocals.{runs_number}
use Rattle.wasm_writer.proofs.locals.write_locals.Goals as goal

pub write_number-requires : goal.write_number-requires
write_number-requires c = omega (arith, runs_number c.args.locals.now, c.count_runs.ensures.count, c.requires.few)
