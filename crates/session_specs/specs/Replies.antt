-- What a reply says to a session: a fault, whether a clock ticks, bytes, what an update asks for, an interval.
use Rattle.std.specs.Prelude.{ℕ, ◌+◌, ◌*◌, ◌/◌, ◌%◌, ◌^◌, ◌==◌, nat_le, nat_lt, ◌&&◌, Bool, true, false, List, [], Option, None, Some, option_map, if◌then◌else◌}
use Rattle.fmi_states.specs.declared.call.Call.{Call}
use Rattle.fmi_states.specs.declared.call.Call.TheVariants as call
use Rattle.fmi_states.specs.declared.reply.Reply.{Reply}
use Rattle.fmi_states.specs.declared.reply.Reply.TheVariants as reply
use Rattle.fmi_states.specs.declared.reply.Broken.{Broken}
use Rattle.fmi_states.specs.declared.reply.Broken.TheVariants as broken
use Rattle.fmi_states.specs.declared.reply.Qualifier.{Qualifier}
use Rattle.fmi_states.specs.declared.reply.Qualifier.TheVariants as qualifier
use Rattle.fmi_states.specs.declared.status.FmiStatus.{FmiStatus}
use Rattle.fmi_states.specs.declared.status.FmiStatus.TheVariants as status
use Rattle.log_specs.specs.Line.{Cause, Trap, Spent, Status2, Status3, Status4, BadReply, BadBuffer}
use Rattle.session_specs.specs.Outcome.{DueChange, Keep, Clear, At}

-- ---- faults

-- what a status takes a unit down for (section 2.2.3)
abbrev pub status_fault : FmiStatus → Option Cause
status_fault status.Ok = None
status_fault status.Warning = None
status_fault status.Discard = Some Status2
status_fault status.Error = Some Status3
status_fault status.Fatal = Some Status4

abbrev pub broken_fault : Broken → Cause
broken_fault broken.Trap = Trap
broken_fault broken.Spent = Spent
broken_fault broken.BadReply = BadReply
broken_fault broken.BadBuffer = BadBuffer

-- what a reply takes a unit down for
abbrev pub fault_of : Reply → Option Cause
fault_of (reply.Plain status) = status_fault status
fault_of (reply.Clock status ticks) = status_fault status
fault_of (reply.Data status bytes) = status_fault status
fault_of (reply.Updated status another_update end) = status_fault status
fault_of (reply.Interval status counter resolution qualifier) = status_fault status
fault_of (reply.Broken reason) = Some (broken_fault reason)

-- where such a call is refused, there is an instance
abbrev pub leaves_an_instance : Call → Bool
leaves_an_instance call.Instantiate = false
leaves_an_instance call.Free = false
leaves_an_instance other = true

-- the unit returned Discard or Error
abbrev pub is_refusal : Cause → Bool
is_refusal Status2 = true
is_refusal Status3 = true
is_refusal other = false

-- Behind a fault the unit is freed where it refused the call, and there is an instance.
abbrev pub is_freed_behind : Call → Cause → Bool
is_freed_behind c why = if leaves_an_instance c then is_refusal why else false

-- ---- clocks, bytes and updates (section 2.3, Event Mode)

-- the output clock ticks
abbrev pub ticks_by : Reply → Bool
ticks_by (reply.Clock status ticks) = ticks
ticks_by other = false

-- What an update asks for: the end of the simulation, another update, or neither.
pub data Wish : Type 0 where
  AnotherUpdate NoUpdate TheEnd : Wish

-- The wish to end the simulation is looked at before the wish for another update.
abbrev pub wish_of : Reply → Wish
wish_of (reply.Updated status another_update true) = TheEnd
wish_of (reply.Updated status true false) = AnotherUpdate
wish_of (reply.Updated status false false) = NoUpdate
wish_of other = NoUpdate

-- ---- intervals of countdown clocks

-- a whole number of ticks from 1 to 2^62
abbrev pub is_interval : ℕ → Bool
is_interval ticks = nat_lt 0 ticks && nat_le ticks (2 ^ 62)

abbrev pub interval_from : ℕ → Option ℕ
interval_from ticks = if is_interval ticks then Some ticks else None

-- counter/from seconds, at so many ticks a second; None where that is no interval
abbrev pub scaled_interval : (counter from ticks : ℕ) → Option ℕ
scaled_interval counter from ticks = if nat_lt 0 from
    then (if (counter * ticks) % from == 0 then interval_from (counter * ticks / from) else None) else None

-- What becomes of a clock's due moment, and None where the interval is bad.
-- Counter and resolution count only where the qualifier is Changed.
abbrev pub change_by : (moment ticks counter from : ℕ) → Qualifier → Option DueChange
change_by moment ticks counter from qualifier.NotYetKnown = Some Clear
change_by moment ticks counter from qualifier.Unchanged = Some Keep
change_by moment ticks counter from qualifier.Changed =
    option_map (λ interval. At (moment + interval)) (scaled_interval counter from ticks)

abbrev pub change_of : (moment ticks : ℕ) → Reply → Option DueChange
change_of moment ticks (reply.Interval status counter from qualifier) = change_by moment ticks counter from qualifier
change_of moment ticks other = Some Keep
