use Rattle.std.proofs.Common.{subst, sym}
use Rattle.fmi_binding.specs.Coming.{Comes, held, guest_with, numbers_in}
use Rattle.binding_specs.specs.Exchanges.{status_of}
use Rattle.fmi_binding.proofs.Functions.{status_by_numbers}
use Rattle.fmi_binding.proofs.running.call_status.Goals as goal

pub returns-clause-comes : goal.returns-clause-comes
returns-clause-comes c = λ phase s area.
    let g = guest_with c.args.bound.now phase area s in
    let h = held c.args.guests.now.pool c.args.instance.now area in
    let k = held c.call_function.new.guests.pool c.call_function.new.instance area in
    subst (Comes (status_of g c.args.function c.args.arguments.now) h k) (sym c.status_in.ensures)
    (status_by_numbers g c.args.function c.args.arguments.now h k (numbers_in c.in_ok-returned.returned)
    (c.in_ok-returned.ensures.comes phase s area))
