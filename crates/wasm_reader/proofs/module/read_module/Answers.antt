use Rattle.std.proofs.Common.{Ok, Err, arith}
use Rattle.module_specs.specs.ModuleReading.{module_read}
use Rattle.wasm_reader.specs.Outcome.{error_of}
use Rattle.wasm_reader.proofs.Whole.{failed, was_read, is_found, is_read}
use Rattle.wasm_reader.proofs.module.read_module.Goals as goal

pub returns-in-Ok-clause-found : goal.returns-in-Ok-clause-found
returns-in-Ok-clause-found c = is_found c.args.bytes.now (λ i. omega (arith, c.type_inv.bytes i)) c.in-Ok.read c.in-Ok.ensures.is

pub returns-in-Ok-clause-only : goal.returns-in-Ok-clause-only
returns-in-Ok-clause-only c = is_read c.args.bytes.now (Ok c.in-Ok.read) (was_read c.in-Ok.read (module_read c.args.bytes.now) c.in-Ok.ensures.is)

pub returns-in-Err-clause-only : goal.returns-in-Err-clause-only
returns-in-Err-clause-only c = rw c.read_error.ensures (is_read c.args.bytes.now (Err (error_of c.in-Err.fault)) (failed c.in-Err.fault (module_read c.args.bytes.now) c.in-Err.ensures.is))
