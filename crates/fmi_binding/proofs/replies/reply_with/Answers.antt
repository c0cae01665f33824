use Rattle.std.specs.Prelude.{Ok}
use Rattle.std.proofs.Common.{subst, sym, ◌∙◌}
use Rattle.binding_specs.specs.Exchanges.{is_fine, reply_if}
use Rattle.fmi_binding.specs.Coming.{Comes, held, guest_with}
use Rattle.fmi_binding.proofs.Replying.{by_bare}
use Rattle.fmi_states.specs.declared.reply.Reply.{Reply}
use Rattle.fmi_binding.proofs.replies.reply_with.Goals as goal

pub returns-else-is_fine : goal.returns-else-is_fine
returns-else-is_fine c =
    λ phase s.
    let h = held c.args.guests.now.pool c.args.instance.now c.args.area in
    let g = guest_with c.args.bound.now phase c.args.area s in
    subst (λ (r : Reply). Comes (reply_if (is_fine c.args.status) g c.args.call.now c.args.status) h h (Ok r)) (sym c.bare_reply.ensures)
    (by_bare g c.args.call.now c.args.status h (sym c.is_fine.ensures ∙ c.if-is_fine.false))
