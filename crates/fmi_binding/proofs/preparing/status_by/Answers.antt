use Rattle.fmi_binding.specs.Arguments.{numbers_of}
use Rattle.fmi_binding.specs.Coming.{held, guest_with}
use Rattle.fmi_binding.proofs.Functions.{if_ok}
use Rattle.fmi_binding.proofs.Preparations.{named_status}
use Rattle.fmi_binding.proofs.preparing.status_by.Goals as goal

pub returns-in_default-clause-comes : goal.returns-in_default-clause-comes
returns-in_default-clause-comes c =
    if_ok c.call_with.result c.call_with.ensures.comes (λ r came phase s area.
    named_status (guest_with c.args.bound.now phase area s) c.args.call.now c.function_of.result (numbers_of c.arguments_of.result)
    (held c.args.guests.now.pool c.args.instance.now area) (held c.call_with.new.guests.pool c.call_with.new.instance area) r
    (λ e. c.in_default.not-Free e) c.function_of.ensures c.arguments_of.ensures.numbers (came phase s area))
