use Rattle.fmi_binding.specs.Coming.{held, guest_with}
use Rattle.fmi_binding.proofs.Functions.{if_ok}
use Rattle.fmi_binding.proofs.Wholes.{not_prepared, no_status, exchanged}
use Rattle.fmi_binding.proofs.exchanging.exchange.Goals as goal

pub returns-in-Err-clause-comes : goal.returns-in-Err-clause-comes
returns-in-Err-clause-comes c =
    λ phase s.
    let prepared = rw c.in-Err.is at c.in_ok-why.ensures.comes in
    not_prepared (guest_with c.args.bound.now phase c.args.area s) c.args.call.now
    (held c.args.guests.now.pool c.args.instance.now c.args.area)
    (held c.prepare.new.guests.pool c.prepare.new.instance c.args.area) c.in-Err.why (prepared phase s)

pub returns-in-Err-2-clause-comes : goal.returns-in-Err-2-clause-comes
returns-in-Err-2-clause-comes c =
    λ phase s.
    let prepared = rw c.in-Ok.is at c.in_ok-why.ensures.comes in
    let status = rw c.in-Err-2.is at c.in_ok-why-2.ensures.comes in
    no_status (guest_with c.args.bound.now phase c.args.area s) c.args.call.now
    (held c.args.guests.now.pool c.args.instance.now c.args.area)
    (held c.prepare.new.guests.pool c.prepare.new.instance c.args.area)
    (held c.status_by.new.guests.pool c.status_by.new.instance c.args.area)
    c.in-Err-2.why (prepared phase s) (status phase s c.args.area)

pub returns-in-Ok-2-clause-comes : goal.returns-in-Ok-2-clause-comes
returns-in-Ok-2-clause-comes c =
    let prepared = rw c.in-Ok.is at c.in_ok-why.ensures.comes in
    let status = rw c.in-Ok-2.is at c.in_ok-why-2.ensures.comes in
    if_ok c.reply_with.result c.reply_with.ensures (λ r reply phase s.
    let k = held c.status_by.new.guests.pool c.status_by.new.instance c.args.area in
    exchanged (guest_with c.args.bound.now phase c.args.area s) c.args.call.now
    (held c.args.guests.now.pool c.args.instance.now c.args.area)
    (held c.prepare.new.guests.pool c.prepare.new.instance c.args.area) k k
    c.in-Ok-2.status r (prepared phase s) (status phase s c.args.area) (reply phase s))
