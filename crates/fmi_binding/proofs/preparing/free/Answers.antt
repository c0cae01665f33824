use Rattle.wasm_machine.specs.Seen.{values_of}
use Rattle.fmi_binding.specs.Coming.{held, guest_with}
use Rattle.fmi_binding.proofs.Preparations.{freed, not_freed}
use Rattle.fmi_binding.proofs.preparing.free.Goals as goal

pub returns-in-Err-clause-comes : goal.returns-in-Err-clause-comes
returns-in-Err-clause-comes c = λ phase s area.
    let called = rw c.in-Err.is at c.in_ok-why.ensures.comes in
    not_freed (guest_with c.args.bound.now phase area s) (held c.args.guests.now.pool c.args.instance.now area)
    (held c.call_function.new.guests.pool c.call_function.new.instance area) c.in-Err.why (called phase s area)

pub returns-in-Ok-clause-comes : goal.returns-in-Ok-clause-comes
returns-in-Ok-clause-comes c = λ phase s area.
    let called = rw c.in-Ok.is at c.in_ok-why.ensures.comes in
    freed (guest_with c.args.bound.now phase area s) (held c.args.guests.now.pool c.args.instance.now area)
    (held c.call_function.new.guests.pool c.call_function.new.instance area) (values_of c.in-Ok.field-0) (called phase s area)
