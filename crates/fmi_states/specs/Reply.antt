-- What a reply says of its call: the status (FMI 3.0, section 2.2.3), its bytes, and whether the kinds agree.
use Rattle.std.specs.Prelude.{◌<◌, ◌&&◌, ℕ, All, Bool, true, false, List, [], ◌∷◌, Option, None, Some, nat_lt}
use Rattle.fmi_states.specs.declared.status.FmiStatus.{FmiStatus}
use Rattle.fmi_states.specs.declared.call.Call.{Call}
use Rattle.fmi_states.specs.declared.call.Call.TheVariants as call
use Rattle.fmi_states.specs.declared.reply.Reply.{Reply}
use Rattle.fmi_states.specs.declared.reply.Reply.TheVariants as reply

-- the status that the unit returned; a unit that broke returned none
abbrev pub status_of : Reply → Option FmiStatus
status_of (reply.Plain status) = Some status
status_of (reply.Clock status ticks) = Some status
status_of (reply.Data status bytes) = Some status
status_of (reply.Updated status another_update end) = Some status
status_of (reply.Interval status counter resolution qualifier) = Some status
status_of (reply.Broken reason) = None

-- the bytes of a binary output, and none in a reply of another kind
abbrev pub bytes_in : Reply → List ℕ
bytes_in (reply.Data status bytes) = bytes
bytes_in other = []

abbrev pub AreBytes : List ℕ → Type 0
AreBytes bytes = All (λ b. b < 256) bytes

-- whether they are
abbrev pub are_bytes : List ℕ → Bool
are_bytes [] = true
are_bytes (b ∷ bs) = nat_lt b 256 && are_bytes bs

-- the call asks for nothing but a status
abbrev pub asks_status_alone : Call → Bool
asks_status_alone (call.GetClock reference) = false
asks_status_alone (call.GetBinary reference) = false
asks_status_alone call.Update = false
asks_status_alone (call.GetInterval reference) = false
asks_status_alone other = true

-- the reply is of the call's kind, and its bytes are bytes; a unit may break at any call
abbrev pub is_suitable : Call → Reply → Bool
is_suitable c (reply.Broken reason) = true
is_suitable (call.GetClock reference) (reply.Clock status ticks) = true
is_suitable (call.GetBinary reference) (reply.Data status bytes) = are_bytes bytes
is_suitable call.Update (reply.Updated status another_update end) = true
is_suitable (call.GetInterval reference) (reply.Interval status counter resolution qualifier) = true
is_suitable c (reply.Plain status) = asks_status_alone c
is_suitable c other = false
