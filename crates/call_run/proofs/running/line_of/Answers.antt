use Rattle.std.proofs.Common.{sym, ◌∙◌, ap}
use Rattle.wasm_types.specs.declared.module.Module.{Module}
use Rattle.wasm_machine.proofs.Starting.{start_fits}
use Rattle.call_run.proofs.running.line_of.Goals as goal

pub call-requires-clause-fits : goal.call-requires-clause-fits
call-requires-clause-fits c =
    start_fits c.args.code.now c.in-Some.first c.«module».ensures.checked.valid
    (ap (λ (m : Module). m.start) (sym c.«module».ensures.same) ∙ c.in-Some.is)
