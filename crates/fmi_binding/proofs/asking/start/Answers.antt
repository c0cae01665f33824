use Rattle.wasm_machine.specs.Seen.{values_of}
use Rattle.fmi_binding.specs.Coming.{held, guest_with}
use Rattle.wasm_machine.proofs.Starting.{start_fits}
use Rattle.fmi_binding.proofs.Wholes.{started, not_started, no_start}
use Rattle.fmi_binding.proofs.asking.start.Goals as goal

pub run-requires-clause-fits : goal.run-requires-clause-fits
run-requires-clause-fits c =
    start_fits c.args.bound.now.code c.in-Some.index c.module.ensures.checked.valid (rw c.module.ensures.same at c.in-Some.is)

pub returns-in-None-clause-comes : goal.returns-in-None-clause-comes
returns-in-None-clause-comes c = λ phase s area.
    no_start (guest_with c.args.bound.now phase area s) (held c.args.guests.now.pool c.args.instance.now area)
    (rw c.module.ensures.same at c.in-None.is)

pub returns-in-Err-clause-comes : goal.returns-in-Err-clause-comes
returns-in-Err-clause-comes c = λ phase s area.
    let ran = rw c.in-Err.is at c.in_ok-why-in-Some.ensures.comes in
    not_started (guest_with c.args.bound.now phase area s) c.in-Some.index (held c.args.guests.now.pool c.args.instance.now area)
    (held c.run.new.guests.pool c.run.new.instance area) c.in-Err.why (rw c.module.ensures.same at c.in-Some.is) (ran area)

pub returns-in-Ok-clause-comes : goal.returns-in-Ok-clause-comes
returns-in-Ok-clause-comes c = λ phase s area.
    let ran = rw c.in-Ok.is at c.in_ok-why-in-Some.ensures.comes in
    started (guest_with c.args.bound.now phase area s) c.in-Some.index (held c.args.guests.now.pool c.args.instance.now area)
    (held c.run.new.guests.pool c.run.new.instance area) (values_of c.in-Ok.field-0) (rw c.module.ensures.same at c.in-Some.is) (ran area)
