use Rattle.fmi_states.specs.declared.reply.Reply.TheVariants.{Interval}
use Rattle.binding_specs.specs.Exchanges.{qualifier_in_area}
use Rattle.fmi_binding.specs.Coming.{held}
use Rattle.fmi_binding.proofs.Replying.{replied, not_replied, no_counter, interval_behind, no_resolution, resolved}
use Rattle.std.specs.Prelude.{Err}
use Rattle.fmi_binding.proofs.replies.interval_reply.Goals as goal

pub returns-in-Err : goal.returns-in-Err
returns-in-Err c =
    λ g reference. no_counter g reference c.args.status (held c.args.guests.now.pool c.args.instance.now c.args.area) c.in-Err.why
    (rw c.in-Err.is at c.in_ok-why.ensures)

pub returns-in-Err-2 : goal.returns-in-Err-2
returns-in-Err-2 c =
    λ g reference.
    let h = held c.args.guests.now.pool c.args.instance.now c.args.area in
    let first = rw c.in-Ok.is at c.in_ok-why.ensures in
    let second = rw c.in-Err-2.is at c.in_ok-why-2.ensures in
    interval_behind g reference c.args.status h c.in-Ok.counter (Err c.in-Err-2.why) first
    (no_resolution g reference c.args.status h c.in-Ok.counter c.in-Err-2.why second)

pub returns-in-Err-3 : goal.returns-in-Err-3
returns-in-Err-3 c =
    λ g reference.
    let h = held c.args.guests.now.pool c.args.instance.now c.args.area in
    let first = rw c.in-Ok.is at c.in_ok-why.ensures in
    let second = rw c.in-Ok-2.is at c.in_ok-why-2.ensures in
    let third = rw c.in-Err-3.is at c.in_ok-why-3.ensures in
    interval_behind g reference c.args.status h c.in-Ok.counter (Err c.in-Err-3.why) first
    (resolved g reference c.args.status h c.in-Ok.counter c.in-Ok-2.resolution (Err c.in-Err-3.why) second
    (not_replied (qualifier_in_area 16) (λ qualifier. Interval c.args.status c.in-Ok.counter c.in-Ok-2.resolution qualifier) h
    c.in-Err-3.why third))

pub returns-in-Ok-3 : goal.returns-in-Ok-3
returns-in-Ok-3 c =
    λ g reference.
    let h = held c.args.guests.now.pool c.args.instance.now c.args.area in
    let first = rw c.in-Ok.is at c.in_ok-why.ensures in
    let second = rw c.in-Ok-2.is at c.in_ok-why-2.ensures in
    let third = rw c.in-Ok-3.is at c.in_ok-why-3.ensures in
    interval_behind g reference c.args.status h c.in-Ok.counter _ first
    (resolved g reference c.args.status h c.in-Ok.counter c.in-Ok-2.resolution _ second
    (replied (qualifier_in_area 16) (λ qualifier. Interval c.args.status c.in-Ok.counter c.in-Ok-2.resolution qualifier) h
    c.in-Ok-3.qualifier third))
