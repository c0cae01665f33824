use Rattle.fmi_binding.specs.Coming.{held, guest_with}
use Rattle.fmi_binding.proofs.Functions.{fits_by_name, calls_nothing, called_by_name, if_ok}
use Rattle.fmi_binding.proofs.running.call_function.Goals as goal

pub run-requires-clause-fits : goal.run-requires-clause-fits
run-requires-clause-fits c =
    fits_by_name c.args.bound.now.code c.requires.bound c.args.function c.args.arguments.now c.in-Some.index c.requires.fit
    (rw c.module.ensures.same at c.in-Some.ensures)

pub returns-in-None-clause-comes : goal.returns-in-None-clause-comes
returns-in-None-clause-comes c = λ phase s area.
    calls_nothing (guest_with c.args.bound.now phase area s) c.args.function c.args.arguments.now
    (held c.args.guests.now.pool c.args.instance.now area)
    (rw c.module.ensures.same at c.in-None.ensures)

pub returns-in-Some-clause-comes : goal.returns-in-Some-clause-comes
returns-in-Some-clause-comes c =
    let named = rw c.module.ensures.same at c.in-Some.ensures in
    if_ok c.run.result c.run.ensures.comes (λ r ran phase s area.
    called_by_name (guest_with c.args.bound.now phase area s) c.args.function c.args.arguments.now c.in-Some.index
    (held c.args.guests.now.pool c.args.instance.now area) (held c.run.new.guests.pool c.run.new.instance area) r named (ran area))
