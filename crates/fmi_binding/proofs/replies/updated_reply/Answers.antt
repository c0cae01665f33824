use Rattle.fmi_states.specs.declared.reply.Reply.TheVariants.{Updated}
use Rattle.binding_specs.specs.Exchanges.{flag_in_area}
use Rattle.fmi_binding.specs.Coming.{held}
use Rattle.fmi_binding.proofs.Replying.{replied, not_replied, not_updated, updated_behind}
use Rattle.std.specs.Prelude.{Err}
use Rattle.fmi_binding.proofs.replies.updated_reply.Goals as goal

pub returns-in-Err : goal.returns-in-Err
returns-in-Err c =
    λ g. not_updated g c.args.status (held c.args.guests.now.pool c.args.instance.now c.args.area) c.in-Err.why
    (rw c.in-Err.is at c.in_ok-why.ensures)

pub returns-in-Err-2 : goal.returns-in-Err-2
returns-in-Err-2 c =
    λ g.
    let h = held c.args.guests.now.pool c.args.instance.now c.args.area in
    let first = rw c.in-Ok.is at c.in_ok-why.ensures in
    let second = rw c.in-Err-2.is at c.in_ok-why-in-Ok.ensures in
    updated_behind g c.args.status c.in-Ok.another h (Err c.in-Err-2.why) first
    (not_replied (flag_in_area 4) (λ end. Updated c.args.status c.in-Ok.another end) h c.in-Err-2.why second)

pub returns-in-Ok-2 : goal.returns-in-Ok-2
returns-in-Ok-2 c =
    λ g.
    let h = held c.args.guests.now.pool c.args.instance.now c.args.area in
    let first = rw c.in-Ok.is at c.in_ok-why.ensures in
    let second = rw c.in-Ok-2.is at c.in_ok-why-in-Ok.ensures in
    updated_behind g c.args.status c.in-Ok.another h _ first
    (replied (flag_in_area 4) (λ end. Updated c.args.status c.in-Ok.another end) h c.in-Ok-2.end second)
