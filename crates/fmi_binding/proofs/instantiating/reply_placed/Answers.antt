use Rattle.std.proofs.Common.{sym, ◌∙◌}
use Rattle.fmi_states.specs.declared.call.Call.TheVariants.{Instantiate}
use Rattle.fmi_binding.specs.Coming.{held, guest_with}
use Rattle.fmi_binding.proofs.Replying.{by_bare}
use Rattle.fmi_binding.proofs.Wholes.{placed_reply, not_placed}
use Rattle.fmi_binding.proofs.instantiating.reply_placed.Goals as goal

pub returns-then-not-is_fine-clause-comes : goal.returns-then-not-is_fine-clause-comes
returns-then-not-is_fine-clause-comes c = λ phase s.
    by_bare (guest_with c.args.bound.now phase c.args.area.now s) Instantiate c.args.status
    (held c.args.guests.now.pool c.args.instance.now c.args.area.now)
    (sym c.is_fine.ensures ∙ c.if-not-is_fine.true)

pub returns-in-Err-clause-comes : goal.returns-in-Err-clause-comes
returns-in-Err-clause-comes c = λ phase s.
    let asked = rw c.in-Err.is at c.in_ok-why.ensures.comes in
    not_placed (guest_with c.args.bound.now phase c.args.area.now s) c.args.status
    (held c.args.guests.now.pool c.args.instance.now c.args.area.now)
    (held c.ask_area.new.guests.pool c.ask_area.new.instance c.args.area.now) c.in-Err.why
    (sym c.is_fine.ensures ∙ c.if-not-is_fine.false) (asked phase s c.args.area.now)

pub returns-in-Ok-clause-comes : goal.returns-in-Ok-clause-comes
returns-in-Ok-clause-comes c = λ phase s.
    let asked = rw c.in-Ok.is at c.in_ok-why.ensures.comes in
    placed_reply (guest_with c.args.bound.now phase c.args.area.now s) c.args.status
    (held c.args.guests.now.pool c.args.instance.now c.args.area.now)
    (held c.ask_area.new.guests.pool c.ask_area.new.instance c.in-Ok.address)
    (sym c.is_fine.ensures ∙ c.if-not-is_fine.false) (asked phase s c.args.area.now)
