-- What nodes take: bytes and lines behind a delivered frame, a failed one, a wakeup and a bad operation; and nodes that leave.
use Rattle.std.specs.Prelude.{◌≡◌, ℕ, true, false, List, [], ◌∷◌, ◌++◌, Some, None, codes, fold, map, refl, length, replicate, is_some, option_map, ◌+◌}
use Rattle.std.specs.Fmt.{digits}
use Rattle.frame_specs.specs.Frame.{Frame, Data, Fd}
use Rattle.frame_specs.specs.Wire.{stuff, stuff_open, stuffed, time_of, duration}
use Rattle.frame_specs.specs.Dominance.{beats}
use Rattle.operation_specs.specs.Operation.{Operation, Transmit, FdTransmit, Configuration, FdRate, Wakeup}
use Rattle.operation_specs.specs.Spelling.{spell}
use Rattle.operation_specs.specs.Reading.{Item, Op}
use Rattle.bus_specs.specs.Bus.{Bus, Setup, Member, new_bus, winner, has_request, with_member}
use Rattle.bus_specs.specs.Start.{course, start}
use Rattle.bus_specs.specs.Finish.{finish}
use Rattle.bus_specs.specs.Submit.{submission_of, submit}
use Rattle.bus_specs.specs.Inbox.{enter, leave, inbox, has_inbox, take_inbox}
use Rattle.log_specs.specs.Line.{line_text, log_text, Down, Over, BadInterval}
use Rattle.bus_specs.specs.Due.{next_due, at, Notices, Finish, Return}

abbrev line : List ℕ → List ℕ
line text = text ++ 10 ∷ []

-- a bus with no FD
abbrev slow : Setup
slow = record { number = 3; rate = 500000; fd_rate = None; nominal = 2000; data_bit_time = None; errors = record { first = 2; count = 1; kind = 4; by = Some 1; bit = 10 } ∷ [] }

abbrev live : Bus
live = fold enter (new_bus slow (0 ∷ 1 ∷ 2 ∷ [])) (0 ∷ 1 ∷ 2 ∷ [])

abbrev emits : Bus → ℕ → ℕ → Item → Bus
emits b now node item = (submit b now node (submission_of b.setup item)).0

abbrev frame : Frame
frame = record { id = 0x123; ext = false; kind = Data; bytes = 1 ∷ 2 ∷ [] }

abbrev sent : Bus
sent = (start (emits live 0 0 (Op (Transmit frame))) 0).0

abbrev done : Bus
done = (finish sent 128000).0

pub ends : next_due sent 0 ≡ Some (at Finish 128000)
unfolding stuff stuff_open stuffed time_of duration beats winner course start submission_of submit next_due
ends = refl

-- the listener gets the transmit, the sender the confirm; then the box is empty
pub mail_after : inbox done 128000 1 ≡ 0x10 ∷ 0 ∷ 0 ∷ 0 ∷ 18 ∷ 0 ∷ 0 ∷ 0 ∷ 0x23 ∷ 1 ∷ 0 ∷ 0 ∷ 0 ∷ 0 ∷ 2 ∷ 0 ∷ 1 ∷ 2 ∷ []
unfolding stuff stuff_open stuffed time_of duration beats winner course start finish submission_of submit spell
mail_after = refl

pub confirmed : inbox done 128000 0 ≡ 0x20 ∷ 0 ∷ 0 ∷ 0 ∷ 12 ∷ 0 ∷ 0 ∷ 0 ∷ 0x23 ∷ 1 ∷ 0 ∷ 0 ∷ []
unfolding stuff stuff_open stuffed time_of duration beats winner course start finish submission_of submit spell
confirmed = refl

pub taken : has_inbox (take_inbox done 128000 1).0 128000 1 ≡ false
unfolding stuff stuff_open stuffed time_of duration beats winner course start finish submission_of submit spell take_inbox
taken = refl

-- a sender that leaves: its frame goes on, nobody is told, and its request is gone
pub left_sender : inbox (finish (leave sent 0) 128000).0 128000 0 ≡ []
unfolding stuff stuff_open stuffed time_of duration beats winner course start finish submission_of submit spell
left_sender = refl

pub left_frame : log_text (finish (leave sent 0) 128000).1 ≡ line (codes "128000 3 done 0 123#0102 to 1,2")
unfolding stuff stuff_open stuffed time_of duration beats winner course start finish submission_of submit line_text digits
left_frame = refl

-- the second attempt fails at node 1 with kind 4: it is primary there, secondary at the others, and the sender is marked
abbrev failed : Bus
failed = (finish (start (emits done 134000 0 (Op (Transmit frame))) 134000).0 196000).0

pub fails : next_due (start (emits done 134000 0 (Op (Transmit frame))) 134000).0 134000 ≡ Some (at Finish 196000)
unfolding stuff stuff_open stuffed time_of duration beats winner course start finish submission_of submit next_due
fails = refl

pub primary : inbox failed 196000 1 ≡ 0x31 ∷ 0 ∷ 0 ∷ 0 ∷ 15 ∷ 0 ∷ 0 ∷ 0 ∷ 0x23 ∷ 1 ∷ 0 ∷ 0 ∷ 4 ∷ 1 ∷ 0 ∷ []
unfolding stuff stuff_open stuffed time_of duration beats winner course start finish submission_of submit spell
primary = refl

pub sender : inbox failed 196000 0 ≡ 0x31 ∷ 0 ∷ 0 ∷ 0 ∷ 15 ∷ 0 ∷ 0 ∷ 0 ∷ 0x23 ∷ 1 ∷ 0 ∷ 0 ∷ 4 ∷ 2 ∷ 1 ∷ []
unfolding stuff stuff_open stuffed time_of duration beats winner course start finish submission_of submit spell
sender = refl

pub transmit_counters : map (λ m. m.counters.tec) failed.members ≡ 8 ∷ 0 ∷ 0 ∷ []
unfolding stuff stuff_open stuffed time_of duration beats winner course start finish submission_of submit
transmit_counters = refl

pub receive_counters : map (λ m. m.counters.rec) failed.members ≡ 0 ∷ 8 ∷ 1 ∷ []
unfolding stuff stuff_open stuffed time_of duration beats winner course start finish submission_of submit
receive_counters = refl

-- an FD transmit on a bus with no FD is bad in its written form, and any FD rate has no effect
abbrev fd : Operation
fd = FdTransmit (record { id = 1; ext = false; kind = Fd true false; bytes = 9 ∷ [] })

pub bad_line : line_text (submit live 5 2 (submission_of slow (Op fd))).1 ≡ line (codes "5 3 bad 2 110000001200000001000000000100010009")
unfolding submission_of submit spell line_text digits
bad_line = refl

pub any_fd_rate : line_text (submit live 5 2 (submission_of slow (Op (Configuration (FdRate 7))))).1 ≡ line (codes "5 3 fdrate 2 7")
unfolding submission_of submit spell line_text digits
any_fd_rate = refl

-- due one nominal bit later: the format notice, then the wake notice
abbrev noticed : Bus
noticed = emits (emits live 5 2 (Op fd)) 5 1 (Op Wakeup)

pub not_yet : has_inbox noticed 2004 2 ≡ false
unfolding submission_of submit spell
not_yet = refl

pub notices_due : next_due noticed 5 ≡ Some (at Notices 2005)
unfolding submission_of submit spell next_due
notices_due = refl

pub notices : inbox noticed 2005 2 ≡ 1 ∷ 0 ∷ 0 ∷ 0 ∷ 28 ∷ 0 ∷ 0 ∷ 0 ∷ 18 ∷ 0 ∷ 0x11 ∷ 0 ∷ 0 ∷ 0 ∷ 18 ∷ 0 ∷ 0 ∷ 0 ∷ 1 ∷ 0 ∷ 0 ∷ 0 ∷ 0 ∷ 1 ∷ 0 ∷ 1 ∷ 0 ∷ 9
    ∷ 0x42 ∷ 0 ∷ 0 ∷ 0 ∷ 8 ∷ 0 ∷ 0 ∷ 0 ∷ []
unfolding submission_of submit spell
notices = refl

pub told : log_text (take_inbox noticed 2005 2).1 ≡ line (codes "2005 3 told 2 format 110000001200000001000000000100010009") ++ line (codes "2005 3 told 2 wake")
unfolding submission_of submit spell take_inbox line_text digits
told = refl

-- a node that left has nothing
pub left_nothing : inbox (leave noticed 2) 2005 2 ≡ []
unfolding submission_of submit spell
left_nothing = refl

pub down : log_text (Down 7 2 BadInterval ∷ Over 8 1 ∷ []) ≡ line (codes "7 - down 2 BadInterval") ++ line (codes "8 - over 1")
unfolding line_text digits
down = refl

pub left_request : has_request (leave sent 0).requests 0 ≡ false
unfolding stuff stuff_open stuffed time_of duration beats winner course start submission_of submit
left_request = refl

-- no wake notice for a node that left
pub wake_notice : map (λ m. is_some m.wake) (emits (leave live 0) 5 1 (Op Wakeup)).members ≡ false ∷ false ∷ true ∷ []
unfolding submission_of submit
wake_notice = refl

-- of 81 bytes 64 are echoed
pub cut_line : length (line_text (submit live 5 2 (submission_of slow (Op (FdTransmit (record { id = 1; ext = false; kind = Fd true false; bytes = replicate 64 7 }))))).1) ≡ 10 + 128 + 1
unfolding submission_of submit spell line_text digits
cut_line = refl

-- at one moment a return comes before a start
abbrev nearly_back : Member → Member
nearly_back m = record m { counters = record { tec = 256; rec = 0 }; occurrences = Some 127 }

abbrev tied : Bus
tied = with_member (emits live 0 0 (Op (Transmit frame))) 1 nearly_back

pub return_first : next_due tied 22000 ≡ Some (at (Return 1) 22000)
unfolding submission_of submit next_due
return_first = refl

-- nobody hears what nobody acknowledges
abbrev alone : Bus
alone = (start (emits (enter (new_bus slow (0 ∷ [])) 0) 0 0 (Op (Transmit frame))) 0).0

pub unheard : option_map (λ r. r.listeners) alone.running ≡ Some []
unfolding stuff stuff_open stuffed time_of duration beats winner course start submission_of submit
unheard = refl
