-- A unit whose call was refused may be freed.
use Rattle.std.proofs.Common.{◌≡◌, Bool, true, false, IsTrue, Option, Some, None, if◌then◌else◌, refl, ap}
use Rattle.fmi_states.specs.declared.phase.Phase.{Phase}
use Rattle.fmi_states.specs.declared.phase.Phase.TheVariants.{Failed, Gone}
use Rattle.fmi_states.specs.declared.call.Call.{Call}
use Rattle.fmi_states.specs.declared.call.Call.TheVariants as call
use Rattle.fmi_states.specs.declared.reply.Reply.{Reply}
use Rattle.fmi_states.specs.declared.reply.Reply.TheVariants as reply
use Rattle.fmi_states.specs.declared.status.FmiStatus.{FmiStatus}
use Rattle.fmi_states.specs.declared.status.FmiStatus.TheVariants as status
use Rattle.fmi_states.specs.declared.reply.Broken.{Broken}
use Rattle.fmi_states.specs.declared.reply.Broken.TheVariants as broken
use Rattle.fmi_states.specs.Phase.{is_permitted, next_phase, phase_by_status, phase_after, phase_after_refusal}
use Rattle.fmi_states.specs.Reply.{status_of}
use Rattle.log_specs.specs.Line.{Cause, Trap, Spent, Status2, Status3, Status4, BadReply, BadBuffer}
use Rattle.session_specs.specs.Outcome.{Down}
use Rattle.session_specs.specs.Session.{phase_behind}
use Rattle.session_specs.specs.Replies.{fault_of, status_fault, broken_fault, leaves_an_instance, is_refusal, is_freed_behind}

status_refused : (s : FmiStatus) (c : Call) (why : Cause) → status_fault s ≡ Some why
    → is_refusal why ≡ true → phase_by_status c (Some s) ≡ phase_after_refusal c
status_refused status.Ok c why h k = cc
status_refused status.Warning c why h k = cc
status_refused status.Discard c why h k = refl
status_refused status.Error c why h k = refl
status_refused status.Fatal c Status4 h k = cc
status_refused status.Fatal c other h k = cc

broken_lost : (b : Broken) (why : Cause) → Some (broken_fault b) ≡ Some why → is_refusal why ≡ true → ⊥
broken_lost broken.Trap why h k = let e : Trap ≡ why = cc in cc
broken_lost broken.Spent why h k = cc
broken_lost broken.BadReply why h k = cc
broken_lost broken.BadBuffer why h k = cc

reply_refused : (r : Reply) (c : Call) (why : Cause) → fault_of r ≡ Some why
    → is_refusal why ≡ true → phase_by_status c (status_of r) ≡ phase_after_refusal c
reply_refused (reply.Plain s) c why h k = status_refused s c why h k
reply_refused (reply.Clock s ticks) c why h k = status_refused s c why h k
reply_refused (reply.Data s bytes) c why h k = status_refused s c why h k
reply_refused (reply.Updated s another_update end) c why h k = status_refused s c why h k
reply_refused (reply.Interval s counter resolution qualifier) c why h k = status_refused s c why h k
reply_refused (reply.Broken b) c why h k = absurd (broken_lost b why h k)

refusal_leaves : (c : Call) → leaves_an_instance c ≡ true → phase_after_refusal c ≡ Failed
refusal_leaves call.Instantiate h = cc
refusal_leaves call.Free h = cc
refusal_leaves other h = refl

both : (a b : Bool) → (if a then b else false) ≡ true → (a ≡ true) × (b ≡ true)
both true b h = (refl, h)
both false b h = absurd cc

pub freed_permits : (phase : Phase) (c : Call) (r : Reply) (why : Cause) → fault_of r ≡ Some why
    → is_freed_behind c why ≡ true → IsTrue (is_permitted (next_phase phase c r) call.Free)
freed_permits phase c r why h k =
    let b = both (leaves_an_instance c) (is_refusal why) k in
    rw (reply_refused r c why h b.1, refusal_leaves c b.0) refl

unfaulted_by : (s : FmiStatus) (c : Call) → status_fault s ≡ None → phase_by_status c (Some s) ≡ phase_after c
unfaulted_by status.Ok c h = refl
unfaulted_by status.Warning c h = refl
unfaulted_by status.Discard c h = cc
unfaulted_by status.Error c h = cc
unfaulted_by status.Fatal c h = cc

-- a reply without a fault leads on by the table
pub unfaulted : (phase : Phase) (c : Call) (r : Reply) → fault_of r ≡ None → next_phase phase c r ≡ phase_after c
unfaulted phase c (reply.Plain s) h = unfaulted_by s c h
unfaulted phase c (reply.Clock s ticks) h = unfaulted_by s c h
unfaulted phase c (reply.Data s bytes) h = unfaulted_by s c h
unfaulted phase c (reply.Updated s another_update end) h = unfaulted_by s c h
unfaulted phase c (reply.Interval s counter resolution qualifier) h = unfaulted_by s c h
unfaulted phase c (reply.Broken b) h = cc

gone_by : (s : Option FmiStatus) → phase_by_status call.Free s ≡ Gone
gone_by (Some status.Ok) = refl
gone_by (Some status.Warning) = refl
gone_by (Some status.Discard) = refl
gone_by (Some status.Error) = refl
gone_by (Some status.Fatal) = refl
gone_by None = refl

refused_gone : (c : Call) → leaves_an_instance c ≡ false → phase_after_refusal c ≡ Gone
refused_gone call.Instantiate h = refl
refused_gone call.Free h = refl
refused_gone other h = absurd cc

neither : (a b : Bool) → (if a then b else false) ≡ false → b ≡ true → a ≡ false
neither true b h k = absurd cc
neither false b h k = refl

status_gone : (s : FmiStatus) (c : Call) (why : Cause) → status_fault s ≡ Some why
    → is_freed_behind c why ≡ false → phase_by_status c (Some s) ≡ Gone
status_gone status.Ok c why h k = absurd cc
status_gone status.Warning c why h k = absurd cc
status_gone status.Discard c why h k = let e : why ≡ Status2 = cc in
    refused_gone c (neither (leaves_an_instance c) (is_refusal why) k (ap is_refusal e))
status_gone status.Error c why h k = let e : why ≡ Status3 = cc in
    refused_gone c (neither (leaves_an_instance c) (is_refusal why) k (ap is_refusal e))
status_gone status.Fatal c why h k = refl

-- a unit that has a fault and can't be freed is gone
pub unfreed_gone : (phase : Phase) (c : Call) (r : Reply) (why : Cause) → fault_of r ≡ Some why
    → is_freed_behind c why ≡ false → next_phase phase c r ≡ Gone
unfreed_gone phase c (reply.Plain s) why h k = status_gone s c why h k
unfreed_gone phase c (reply.Clock s ticks) why h k = status_gone s c why h k
unfreed_gone phase c (reply.Data s bytes) why h k = status_gone s c why h k
unfreed_gone phase c (reply.Updated s another_update end) why h k = status_gone s c why h k
unfreed_gone phase c (reply.Interval s counter resolution qualifier) why h k = status_gone s c why h k
unfreed_gone phase c (reply.Broken b) why h k = refl

status_down : (s : FmiStatus) (why : Cause) → status_fault s ≡ Some why → phase_behind (Down why) ≡ Gone
status_down status.Ok why h = absurd cc
status_down status.Warning why h = absurd cc
status_down status.Discard why h = let e : why ≡ Status2 = cc in ap (λ (w : Cause). phase_behind (Down w)) e
status_down status.Error why h = let e : why ≡ Status3 = cc in ap (λ (w : Cause). phase_behind (Down w)) e
status_down status.Fatal why h = let e : why ≡ Status4 = cc in ap (λ (w : Cause). phase_behind (Down w)) e

broken_down : (b : Broken) (why : Cause) → Some (broken_fault b) ≡ Some why → phase_behind (Down why) ≡ Gone
broken_down broken.Trap why h = let e : why ≡ Trap = cc in ap (λ (w : Cause). phase_behind (Down w)) e
broken_down broken.Spent why h = let e : why ≡ Spent = cc in ap (λ (w : Cause). phase_behind (Down w)) e
broken_down broken.BadReply why h = let e : why ≡ BadReply = cc in ap (λ (w : Cause). phase_behind (Down w)) e
broken_down broken.BadBuffer why h = let e : why ≡ BadBuffer = cc in ap (λ (w : Cause). phase_behind (Down w)) e

-- a fault of a reply leaves no unit
pub fault_down : (r : Reply) (why : Cause) → fault_of r ≡ Some why → phase_behind (Down why) ≡ Gone
fault_down (reply.Plain s) why h = status_down s why h
fault_down (reply.Clock s ticks) why h = status_down s why h
fault_down (reply.Data s bytes) why h = status_down s why h
fault_down (reply.Updated s another_update end) why h = status_down s why h
fault_down (reply.Interval s counter resolution qualifier) why h = status_down s why h
fault_down (reply.Broken b) why h = broken_down b why h

-- a unit that was freed is gone
pub freed_gone : (phase : Phase) (r : Reply) → next_phase phase call.Free r ≡ Gone
freed_gone phase r = gone_by (status_of r)
