-- What a node takes at its turn: its mail and its notices. And how a node becomes live, and ends.
use Rattle.std.specs.Prelude.{ℕ, ◌==◌, ◌||◌, Bool, true, false, not, List, ◌++◌, filter, flat_map, map, option_map, option_to_list, Option, Some, None, if◌then◌else◌, nat_le, is_some}
use Rattle.std.specs.List.{list_any}
use Rattle.frame_specs.specs.Frame.{Frame, Kind, Data, Remote, Fd}
use Rattle.operation_specs.specs.Operation.{Operation, Transmit, FdTransmit, ArbitrationLost, FormatError, Wakeup}
use Rattle.operation_specs.specs.Operation as op
use Rattle.operation_specs.specs.Spelling.{spell}
use Rattle.bus_specs.specs.Bus.{Bus, Member, Mail, Received, Confirm, BusError, LostNotice, FormatNotice, with_member}
use Rattle.log_specs.specs.Line.{Line, On, Told, ToldLost, ToldFormat, ToldWake}

-- what is due at this moment, and what is left of it
abbrev pub due : {A : Type 0} → (A → ℕ) → ℕ → Option A → Option A
due when now None = None
due when now (Some n) = if nat_le (when n) now then Some n else None

abbrev pub later_part : {A : Type 0} → (A → ℕ) → ℕ → Option A → Option A
later_part when now None = None
later_part when now (Some n) = if nat_le (when n) now then None else Some n

-- the notices that are due
abbrev pub due_lost : ℕ → Member → Option LostNotice
due_lost now m = due (λ n. n.due) now m.lost

abbrev pub due_format : ℕ → Member → Option FormatNotice
due_format now m = due (λ n. n.due) now m.format

abbrev pub due_wake : ℕ → Member → Option ℕ
due_wake now m = due (λ n. n) now m.wake

abbrev pub has_notice : ℕ → Member → Bool
has_notice now m = is_some (due_lost now m) || is_some (due_format now m) || is_some (due_wake now m)

abbrev pub transmit_as : Kind → Frame → Operation
transmit_as (Fd brs esi) f = FdTransmit f
transmit_as Data f = Transmit f
transmit_as Remote f = Transmit f

abbrev pub operation_of_mail : Mail → Operation
operation_of_mail (Received f) = transmit_as f.kind f
operation_of_mail (Confirm id) = op.Confirm id
operation_of_mail (BusError id kind primary sender) = op.BusError id kind primary sender

-- the mail, then the lost, the format and the wake notice
abbrev pub items_of : ℕ → Member → List Operation
items_of now m = option_to_list (option_map operation_of_mail m.mail)
    ++ option_to_list (option_map (λ n. ArbitrationLost n.id) (due_lost now m))
    ++ option_to_list (option_map (λ n. FormatError n.bytes) (due_format now m))
    ++ option_to_list (option_map (λ n. Wakeup) (due_wake now m))

-- what each notice that is taken tells
abbrev pub told_notices : ℕ → Member → List Told
told_notices now m = option_to_list (option_map (λ n. ToldLost n.id) (due_lost now m))
    ++ option_to_list (option_map (λ n. ToldFormat n.bytes) (due_format now m))
    ++ option_to_list (option_map (λ n. ToldWake) (due_wake now m))

-- a wake notice makes it awake
abbrev pub member_after_inbox : ℕ → Member → Member
member_after_inbox now m = record m {
  lost = later_part (λ n. n.due) now m.lost;
  format = later_part (λ n. n.due) now m.format;
  wake = later_part (λ n. n) now m.wake;
  awake = m.awake || is_some (due_wake now m);
  mail = None;
}

abbrev pub members_at : Bus → ℕ → List Member
members_at b node = filter (λ m. m.node == node) b.members

-- the bytes that the node would take
abbrev pub inbox : Bus → ℕ → ℕ → List ℕ
inbox b now node = flat_map spell (flat_map (items_of now) (members_at b node))

abbrev pub has_inbox : Bus → ℕ → ℕ → Bool
has_inbox b now node = list_any (λ m. is_some m.mail || has_notice now m) (members_at b node)

-- the node takes its mail and what is due
unfoldable pub take_inbox : Bus → ℕ → ℕ → Bus × List Line
take_inbox b now node = (
  with_member b node (member_after_inbox now),
  flat_map (λ m. map (On now b.setup.number node) (told_notices now m)) (members_at b node),
)

-- the node is live from now on
abbrev pub enter : Bus → ℕ → Bus
enter b node = with_member b node (λ m. record m { live = true })

abbrev pub member_after_leaving : Member → Member
member_after_leaving m = record m { live = false; lost = None; format = None; wake = None; mail = None }

-- the node is live no longer: its requests, notices and mail are gone, and its running frame goes on
abbrev pub leave : Bus → ℕ → Bus
leave b node = record (with_member b node member_after_leaving) { requests = filter (λ q. not (q.node == node)) b.requests }
