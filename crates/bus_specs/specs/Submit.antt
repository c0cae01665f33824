-- What a node asks of the bus.
use Rattle.std.specs.Prelude.{ℕ, ◌+◌, ◌==◌, Bool, true, false, List, [], ◌∷◌, ◌++◌, map, take, Option, Some, None, if◌then◌else◌, nat_le}
use Rattle.frame_specs.specs.Frame.{Frame}
use Rattle.operation_specs.specs.Operation.{Operation, Declared, Parameter}
use Rattle.operation_specs.specs.Operation as op
use Rattle.operation_specs.specs.Reading.{Item, Op, Bad}
use Rattle.operation_specs.specs.Spelling.{spell}
use Rattle.bus_specs.specs.Bus.{Setup, FormatNotice, Member, Bus, bits, off, has_fd, member_is, with_member, waiting}
use Rattle.log_specs.specs.Line as log
use Rattle.log_specs.specs.Line.{Line, On, Told}

pub data Submission : Type 0 where
  Transmit : (frame : Frame) → Submission
  Keep Discard Wakeup Sleep : Submission
  Rate FdRate : (value : ℕ) → Submission
  Declare : (level : Declared) → Submission
  -- the first 64 bytes
  FormatError Unfit : (bytes : List ℕ) → Submission

abbrev pub first_64 : List ℕ → List ℕ
first_64 bytes = take 64 bytes

-- an operation that this bus doesn't take, in its written form
abbrev pub unfit_operation : Operation → Submission
unfit_operation o = Unfit (first_64 (spell o))

-- the bus's own data rate; where it has none, any
abbrev pub is_own : Option ℕ → ℕ → Bool
is_own None rate = true
is_own (Some r) rate = r == rate

abbrev pub submission_of_parameter : Setup → Parameter → Submission
submission_of_parameter s (op.Rate v) = if s.rate == v then Rate v else unfit_operation (op.Configuration (op.Rate v))
submission_of_parameter s (op.FdRate v) = if is_own s.fd_rate v then FdRate v else unfit_operation (op.Configuration (op.FdRate v))
submission_of_parameter s op.Keep = Keep
submission_of_parameter s op.Discard = Discard

abbrev pub submission_of_operation : Setup → Operation → Submission
submission_of_operation s (op.FormatError bytes) = FormatError (first_64 bytes)
submission_of_operation s (op.Transmit f) = Transmit f
submission_of_operation s (op.FdTransmit f) = if has_fd s then Transmit f else unfit_operation (op.FdTransmit f)
submission_of_operation s (op.Confirm id) = unfit_operation (op.Confirm id)
submission_of_operation s (op.ArbitrationLost id) = unfit_operation (op.ArbitrationLost id)
submission_of_operation s (op.BusError id kind primary sender) = unfit_operation (op.BusError id kind primary sender)
submission_of_operation s (op.Configuration p) = submission_of_parameter s p
submission_of_operation s (op.Status l) = Declare l
submission_of_operation s op.Wakeup = Wakeup
submission_of_operation s op.Sleep = Sleep

-- what an item that a node emits asks of this bus
unfoldable pub submission_of : Setup → Item → Submission
submission_of s (Op o) = submission_of_operation s o
submission_of s (Bad bytes) = Unfit (first_64 bytes)

-- what becomes of a request: a node has 256 at most, and none while it is off
pub data Fate : Type 0 where
  Accepted Full Dropped : Fate

abbrev pub fate : Bus → ℕ → Fate
fate b node = if member_is off b.members node then Dropped else if nat_le 256 (waiting b.requests node) then Full else Accepted

abbrev pub with_request : Bus → ℕ → Frame → Fate → Bus
with_request b node f Accepted =
    record b { requests = b.requests ++ record { node = node; number = b.next; frame = f } ∷ []; next = b.next + 1 }
with_request b node f Full = b
with_request b node f Dropped = b

-- a wake notice, unless there is one
abbrev pub wake_notice : ℕ → Option ℕ → Option ℕ
wake_notice due None = Some due
wake_notice due (Some d) = Some d

-- the node itself is awake, the other live nodes get a notice
abbrev pub member_after_wakeup : ℕ → ℕ → Member → Member
member_after_wakeup node due m = if m.node == node then record m { awake = true } else if m.live then record m { wake = wake_notice due m.wake } else m

-- a format notice, unless there is one
abbrev pub format_notice : ℕ → List ℕ → Option FormatNotice → Option FormatNotice
format_notice due bytes None = Some (record { due = due; bytes = bytes })
format_notice due bytes (Some n) = Some n

abbrev pub bus_after_submission : Bus → ℕ → ℕ → Submission → Bus
bus_after_submission b now node (Transmit f) = with_request b node f (fate b node)
bus_after_submission b now node Keep = with_member b node (λ m. record m { discards = false })
bus_after_submission b now node Discard = with_member b node (λ m. record m { discards = true })
bus_after_submission b now node Wakeup = record b { members = map (member_after_wakeup node (now + bits b 1)) b.members }
bus_after_submission b now node Sleep = with_member b node (λ m. record m { awake = false })
bus_after_submission b now node (Rate v) = b
bus_after_submission b now node (FdRate v) = b
bus_after_submission b now node (Declare l) = b
bus_after_submission b now node (FormatError bytes) = b
bus_after_submission b now node (Unfit bytes) = with_member b node (λ m. record m { format = format_notice (now + bits b 1) bytes m.format })

abbrev pub told_fate : Frame → Fate → Told
told_fate f Accepted = log.Req f
told_fate f Full = log.Full f
told_fate f Dropped = log.Drop f

abbrev pub told_of : Bus → ℕ → Submission → Told
told_of b node (Transmit f) = told_fate f (fate b node)
told_of b node Keep = log.Keep
told_of b node Discard = log.Discard
told_of b node Wakeup = log.Wake
told_of b node Sleep = log.Sleep
told_of b node (Rate v) = log.Rate v
told_of b node (FdRate v) = log.FdRate v
told_of b node (Declare l) = log.Status l
told_of b node (FormatError bytes) = log.FormatError bytes
told_of b node (Unfit bytes) = log.Bad bytes

-- the bus behind a submission at this moment, and its line
unfoldable pub submit : Bus → ℕ → ℕ → Submission → Bus × Line
submit b now node what = (bus_after_submission b now node what, On now b.setup.number node (told_of b node what))
