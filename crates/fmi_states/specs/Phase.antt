-- The phases of a unit in co-simulation with event mode: the states of FMI 3.0, section 2.3,
-- and Step Mode of section 4.2. Fresh stands before the first call, and Gone behind the last one.
-- After an error (section 2.2.3) the instance is Failed, and can only be freed.
use Rattle.std.specs.Prelude.{◌≡◌, ℕ, Bool, true, false, List, Option, None, Some, refl}
use Rattle.fmi_states.specs.declared.phase.Phase.{Phase}
use Rattle.fmi_states.specs.declared.phase.Phase.TheVariants.{Fresh, Instantiated, Init, Event, Step, Terminated, Failed, Gone}
use Rattle.fmi_states.specs.declared.status.FmiStatus.{FmiStatus}
use Rattle.fmi_states.specs.declared.status.FmiStatus.TheVariants as status
use Rattle.fmi_states.specs.declared.call.Call.{Call}
use Rattle.fmi_states.specs.declared.call.Call.TheVariants as call
use Rattle.fmi_states.specs.declared.reply.Reply.{Reply}
use Rattle.fmi_states.specs.declared.reply.Reply.TheVariants as reply
use Rattle.fmi_states.specs.Reply.{status_of}

-- the calls that each phase permits
abbrev pub is_permitted : Phase → Call → Bool
is_permitted Fresh call.Instantiate = true
is_permitted Instantiated call.EnterInit = true
is_permitted Instantiated call.Free = true
is_permitted Init call.ExitInit = true
is_permitted Event (call.SetClock reference) = true
is_permitted Event (call.SetBinary reference bytes) = true
is_permitted Event (call.GetClock reference) = true
is_permitted Event (call.GetBinary reference) = true
is_permitted Event call.Update = true
is_permitted Event (call.GetInterval reference) = true
is_permitted Event call.EnterStep = true
is_permitted Event call.Terminate = true
is_permitted Step (call.DoStep from size) = true
is_permitted Step call.EnterEvent = true
is_permitted Step call.Terminate = true
is_permitted Terminated call.Free = true
is_permitted Failed call.Free = true
is_permitted phase other = false

-- the phase that a call leads to by OK or Warning
abbrev pub phase_after : Call → Phase
phase_after call.Instantiate = Instantiated
phase_after call.EnterInit = Init
phase_after call.ExitInit = Event
phase_after call.EnterEvent = Event
phase_after (call.SetClock reference) = Event
phase_after (call.SetBinary reference bytes) = Event
phase_after (call.GetClock reference) = Event
phase_after (call.GetBinary reference) = Event
phase_after call.Update = Event
phase_after (call.GetInterval reference) = Event
phase_after call.EnterStep = Step
phase_after (call.DoStep from size) = Step
phase_after call.Terminate = Terminated
phase_after call.Free = Gone

-- the phase that a call leads to by Discard or Error: without an instance there is nothing to free
abbrev pub phase_after_refusal : Call → Phase
phase_after_refusal call.Instantiate = Gone
phase_after_refusal call.Free = Gone
phase_after_refusal other = Failed

-- the phase that a call leads to by what it returned
abbrev pub phase_by_status : Call → Option FmiStatus → Phase
phase_by_status c (Some status.Ok) = phase_after c
phase_by_status c (Some status.Warning) = phase_after c
phase_by_status c (Some status.Discard) = phase_after_refusal c
phase_by_status c (Some status.Error) = phase_after_refusal c
phase_by_status c (Some status.Fatal) = Gone
phase_by_status c None = Gone

-- the phase after a call that was answered so, where it was permitted
abbrev pub next_phase : Phase → Call → Reply → Phase
next_phase phase c answer = phase_by_status c (status_of answer)

-- a binary input isn't set while time advances
set_binary-in-step : (reference : ℕ) (bytes : List ℕ)
    → is_permitted Step (call.SetBinary reference bytes) ≡ false
set_binary-in-step reference bytes = refl

-- where leaving Initialization Mode is discarded, there is an instance to free;
-- where the instantiation is, there is none
exit_discarded : next_phase Init call.ExitInit (reply.Plain status.Discard) ≡ Failed
exit_discarded = refl

instantiation_discarded : next_phase Fresh call.Instantiate (reply.Plain status.Discard) ≡ Gone
instantiation_discarded = refl
