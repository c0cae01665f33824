-- The states of two short runs of one bus with two live nodes at 500 kbit/s, where a tick is a nanosecond.
use Rattle.std.specs.Prelude.{◌≡◌, ◌<◌, ◌^◌, ℕ, true, false, List, [], ◌∷◌, None, Some, refl}
use Rattle.std.proofs.Common.{arith}
use Rattle.frame_specs.specs.Frame.{Frame, Data}
use Rattle.operation_specs.specs.Reading.{Item, Op, Bad}
use Rattle.operation_specs.specs.Operation.{Transmit}
use Rattle.frame_specs.specs.Wire.{duration, stuffed, stuff}
use Rattle.bus_specs.specs.Bus.{Setup, Bus, new_bus, member_is, winner}
use Rattle.bus_specs.specs.Inbox.{enter}
use Rattle.bus_specs.specs.Submit.{submit, submission_of}
use Rattle.bus_specs.specs.Start.{start, course}
use Rattle.bus_specs.specs.Due.{next_due, at, Start, Finish}

abbrev pub setup : Setup
setup = record { number = 0; rate = 500000; fd_rate = None; nominal = 2000; data_bit_time = None; errors = [] }

unfoldable pub at_first : Bus
at_first = enter (enter (new_bus setup (0 ∷ 1 ∷ [])) 0) 1

-- behind an item that node 0 emits at moment 0
abbrev pub behind_item : Bus → Item → Bus
behind_item b item = (submit b 0 0 (submission_of b.setup item)).0

-- a CAN transmit whose stated length cuts off its last byte
abbrev pub cut : List ℕ
cut = 0x10 ∷ 0 ∷ 0 ∷ 0 ∷ 0x11 ∷ 0 ∷ 0 ∷ 0 ∷ 0x23 ∷ 1 ∷ 0 ∷ 0 ∷ 0 ∷ 0 ∷ 2 ∷ 0 ∷ 1 ∷ []

unfoldable pub behind_cut : Bus
behind_cut = behind_item at_first (Bad cut)

abbrev pub frame : Frame
frame = record { id = 0x123; ext = false; kind = Data; bytes = 1 ∷ 2 ∷ [] }

unfoldable pub behind_request : Bus
behind_request = behind_item at_first (Op (Transmit frame))

unfoldable pub behind_start : Bus
behind_start = (start behind_request 0).0

pub live_at_first : member_is (λ m. m.live) at_first.members 0 ≡ true
unfolding at_first
live_at_first = refl

pub next_at_first : at_first.next ≡ 0
unfolding at_first
next_at_first = refl

pub live_behind_cut : member_is (λ m. m.live) behind_cut.members 0 ≡ true
unfolding behind_cut at_first submit submission_of
live_behind_cut = refl

pub next_behind_cut : behind_cut.next ≡ 0
unfolding behind_cut at_first submit submission_of
next_behind_cut = refl

pub due_behind_request : next_due behind_request 0 ≡ Some (at Start 0)
unfolding behind_request at_first submit submission_of next_due
due_behind_request = refl

pub attempts_behind_request : behind_request.attempts ≡ 0
unfolding behind_request at_first submit submission_of
attempts_behind_request = refl

pub due_behind_start : next_due behind_start 0 ≡ Some (at Finish 128000)
unfolding behind_start behind_request at_first submit submission_of start next_due winner course duration stuffed stuff
due_behind_start = refl
