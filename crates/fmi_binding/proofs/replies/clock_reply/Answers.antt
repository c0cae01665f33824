use Rattle.fmi_states.specs.declared.reply.Reply.TheVariants.{Clock}
use Rattle.binding_specs.specs.Exchanges.{flag_in_area}
use Rattle.fmi_binding.specs.Coming.{held}
use Rattle.fmi_binding.proofs.Replying.{replied, not_replied}
use Rattle.fmi_binding.proofs.replies.clock_reply.Goals as goal

pub returns-in-Err : goal.returns-in-Err
returns-in-Err c =
    λ g reference. not_replied (flag_in_area 0) (λ ticks. Clock c.args.status ticks)
    (held c.args.guests.now.pool c.args.instance.now c.args.area) c.in-Err.why (rw c.in-Err.is at c.in_ok-why.ensures)

pub returns-in-Ok : goal.returns-in-Ok
returns-in-Ok c =
    λ g reference. replied (flag_in_area 0) (λ ticks. Clock c.args.status ticks)
    (held c.args.guests.now.pool c.args.instance.now c.args.area) c.in-Ok.ticks (rw c.in-Ok.is at c.in_ok-why.ensures)
