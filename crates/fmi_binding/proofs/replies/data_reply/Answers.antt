use Rattle.std.specs.Prelude.{Ok, Err}
use Rattle.std.proofs.Common.{subst, sym}
use Rattle.fmi_states.specs.declared.reply.Reply.TheVariants.{Data}
use Rattle.binding_specs.specs.Exchanges.{binary_in_area}
use Rattle.fmi_binding.specs.Coming.{Comes, held}
use Rattle.fmi_binding.proofs.Replying.{replied, not_replied}
use Rattle.fmi_binding.proofs.replies.data_reply.Goals as goal

pub returns-in-Err : goal.returns-in-Err
returns-in-Err c =
    λ g reference same.
    let h = held c.args.guests.now.pool c.args.instance.now c.args.area in
    let read = rw c.in-Err.is at c.in_ok-why.ensures in
    not_replied (binary_in_area _) (λ bytes. Data c.args.status bytes) h c.in-Err.why
    (subst (λ most. Comes (binary_in_area most) h h (Err c.in-Err.why)) (sym same) read)

pub returns-in-Ok : goal.returns-in-Ok
returns-in-Ok c =
    λ g reference same.
    let h = held c.args.guests.now.pool c.args.instance.now c.args.area in
    let read = rw c.in-Ok.is at c.in_ok-why.ensures in
    replied (binary_in_area _) (λ bytes. Data c.args.status bytes) h c.in-Ok.bytes
    (subst (λ most. Comes (binary_in_area most) h h (Ok c.in-Ok.bytes)) (sym same) read)
