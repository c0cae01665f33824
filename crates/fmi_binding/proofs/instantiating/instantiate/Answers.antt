use Rattle.fmi_states.specs.declared.call.Call.TheVariants.{Instantiate}
use Rattle.fmi_binding.specs.Coming.{held, guest_with}
use Rattle.fmi_binding.proofs.Functions.{if_ok}
use Rattle.fmi_binding.proofs.Wholes.{not_prepared, no_status, exchanged}
use Rattle.fmi_binding.proofs.instantiating.instantiate.Goals as goal

pub returns-in-Err-clause-comes : goal.returns-in-Err-clause-comes
returns-in-Err-clause-comes c = λ phase s.
    let started = rw c.in-Err.is at c.in_ok-why.ensures.comes in
    not_prepared (guest_with c.args.bound.now phase c.args.area.now s) Instantiate
    (held c.args.guests.now.pool c.args.instance.now c.args.area.now)
    (held c.start.new.guests.pool c.start.new.instance c.args.area.now) c.in-Err.why (started phase s c.args.area.now)

pub returns-in-Err-2-clause-comes : goal.returns-in-Err-2-clause-comes
returns-in-Err-2-clause-comes c = λ phase s.
    let started = rw c.in-Ok.is at c.in_ok-why.ensures.comes in
    let status = rw c.in-Err-2.is at c.in_ok-why-2.ensures.comes in
    no_status (guest_with c.args.bound.now phase c.args.area.now s) Instantiate
    (held c.args.guests.now.pool c.args.instance.now c.args.area.now)
    (held c.start.new.guests.pool c.start.new.instance c.args.area.now)
    (held c.call_status.new.guests.pool c.call_status.new.instance c.args.area.now)
    c.in-Err-2.why (started phase s c.args.area.now) (status phase s c.args.area.now)

pub returns-in-Ok-2-clause-comes : goal.returns-in-Ok-2-clause-comes
returns-in-Ok-2-clause-comes c =
    let started = rw c.in-Ok.is at c.in_ok-why.ensures.comes in
    let status = rw c.in-Ok-2.is at c.in_ok-why-2.ensures.comes in
    if_ok c.reply_placed.result c.reply_placed.ensures.comes (λ r reply phase s.
    exchanged (guest_with c.args.bound.now phase c.args.area.now s) Instantiate
    (held c.args.guests.now.pool c.args.instance.now c.args.area.now)
    (held c.start.new.guests.pool c.start.new.instance c.args.area.now)
    (held c.call_status.new.guests.pool c.call_status.new.instance c.args.area.now)
    (held c.reply_placed.new.guests.pool c.reply_placed.new.instance c.reply_placed.new.area)
    c.in-Ok-2.status r (started phase s c.args.area.now) (status phase s c.args.area.now) (reply phase s))
