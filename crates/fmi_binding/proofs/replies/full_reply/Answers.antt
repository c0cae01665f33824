use Rattle.std.proofs.Common.{subst, sym, ◌∙◌, ap}
use Rattle.fmi_states.specs.declared.call.Call.{Call}
use Rattle.unit_specs.specs.Description.{Terminal}
use Rattle.fmi_binding.specs.declared.bound_unit.BoundUnit.{BoundUnit}
use Rattle.std.specs.Prelude.{List}
use Rattle.binding_specs.specs.Guests.{most_bytes}
use Rattle.binding_specs.specs.Exchanges.{full_reply}
use Rattle.fmi_binding.specs.Coming.{Comes, held, guest_with}
use Rattle.fmi_binding.proofs.Functions.{if_ok}
use Rattle.fmi_binding.proofs.Replying.{plain_reply}
use Rattle.fmi_binding.proofs.replies.full_reply.Goals as goal

pub returns-in-GetClock : goal.returns-in-GetClock
returns-in-GetClock c =
    let h = held c.args.guests.now.pool c.args.instance.now c.args.area in
    if_ok c.clock_reply.result c.clock_reply.ensures (λ r reply phase s.
    let g = guest_with c.args.bound.now phase c.args.area s in
    subst (λ (a : Call). Comes (full_reply g a c.args.status) h h r) (sym c.in-GetClock.is) (reply g c.in-GetClock.field-0))

pub returns-in-GetBinary : goal.returns-in-GetBinary
returns-in-GetBinary c =
    let h = held c.args.guests.now.pool c.args.instance.now c.args.area in
    if_ok c.data_reply.result c.data_reply.ensures (λ r reply phase s.
    let g = guest_with c.args.bound.now phase c.args.area s in
    subst (λ (a : Call). Comes (full_reply g a c.args.status) h h r) (sym c.in-GetBinary.is)
    (reply g c.in-GetBinary.reference (sym (c.most_bytes-most.ensures ∙ ap
    (λ (ts : List Terminal). most_bytes ts c.in-GetBinary.reference)
    (c.deref.ensures.value ∙ ap (λ (b : BoundUnit). b.description.terminals) c.bound.view_is)))))

pub returns-in-Update : goal.returns-in-Update
returns-in-Update c =
    let h = held c.args.guests.now.pool c.args.instance.now c.args.area in
    if_ok c.updated_reply.result c.updated_reply.ensures (λ r reply phase s.
    let g = guest_with c.args.bound.now phase c.args.area s in
    subst (λ (a : Call). Comes (full_reply g a c.args.status) h h r) (sym c.in-Update.is) (reply g))

pub returns-in-GetInterval : goal.returns-in-GetInterval
returns-in-GetInterval c =
    let h = held c.args.guests.now.pool c.args.instance.now c.args.area in
    if_ok c.interval_reply.result c.interval_reply.ensures (λ r reply phase s.
    let g = guest_with c.args.bound.now phase c.args.area s in
    subst (λ (a : Call). Comes (full_reply g a c.args.status) h h r) (sym c.in-GetInterval.is) (reply g c.in-GetInterval.field-0))

pub returns-in_default : goal.returns-in_default
returns-in_default c =
    λ phase s.
    plain_reply (guest_with c.args.bound.now phase c.args.area s) c.args.call.now c.args.status
    (held c.args.guests.now.pool c.args.instance.now c.args.area) c.requires.other
    (λ reference e. c.in_default.not-GetClock reference e) (λ reference e. c.in_default.not-GetBinary reference e)
    (λ e. c.in_default.not-Update e) (λ reference e. c.in_default.not-GetInterval reference e)
