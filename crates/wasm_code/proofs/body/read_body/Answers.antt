use Rattle.std.proofs.Common.{take, Ok, Err, arith}
use Rattle.module_specs.proofs.Regions.{region_size}
use Rattle.wasm_code.proofs.Whole.{is_found, is_read}
use Rattle.wasm_code.proofs.Within.{has_error}
use Rattle.wasm_code.proofs.body.read_body.Goals as goal

pub code_error-requires : goal.code_error-requires
code_error-requires c =
    let size = region_size c.args.bytes.now c.args.end c.requires.end in
    has_error c.args.ty (take c.args.end c.args.bytes.now) c.args.at c.in-Err.fault (omega (arith, size, c.requires.place)) c.in-Err.ensures.is

pub returns-in-Ok-clause-found : goal.returns-in-Ok-clause-found
returns-in-Ok-clause-found c = is_found c.args.bytes.now c.args.end c.args.at c.args.ty c.requires.end (λ i. omega (arith, c.type_inv.bytes i)) c.requires.place c.in-Ok.read c.in-Ok.ensures.is

pub returns-in-Ok-clause-only : goal.returns-in-Ok-clause-only
returns-in-Ok-clause-only c = is_read c.args.bytes.now c.args.end c.args.at c.args.ty c.requires.end (Ok c.in-Ok.read) c.in-Ok.ensures.is

pub returns-in-Err-clause-only : goal.returns-in-Err-clause-only
returns-in-Err-clause-only c = rw c.code_error.ensures (is_read c.args.bytes.now c.args.end c.args.at c.args.ty c.requires.end (Err c.in-Err.fault) c.in-Err.ensures.is)
