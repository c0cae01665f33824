-- Two buses and three nodes: a sender, a gateway, a listener. A frame crosses; and the same run where its budget is spent, and cut in two.
use Rattle.std.specs.Prelude.{◌≡◌, ℕ, false, List, [], ◌∷◌, ◌++◌, codes, refl}
use Rattle.std.specs.Fmt.{digits}
use Rattle.frame_specs.specs.Frame.{Frame, Data}
use Rattle.frame_specs.specs.Wire.{stuff, stuff_open, stuffed, time_of, duration}
use Rattle.frame_specs.specs.Dominance.{beats}
use Rattle.operation_specs.specs.Operation.{Transmit}
use Rattle.operation_specs.specs.Spelling.{spell}
use Rattle.bus_ops.specs.Fields.{operation_at, fields_at, plain_at, transmit_at, fd_transmit_at, classical_at, fd_at, classical_behind, fd_behind, checked, lone_number, error_at, error_behind, parameter_at}
use Rattle.bus_ops.specs.ItemsIn.{items_in, items_within, item_in}
use Rattle.bus_specs.specs.Bus.{winner}
use Rattle.bus_specs.specs.Start.{course, start}
use Rattle.bus_specs.specs.Finish.{finish, recover}
use Rattle.bus_specs.specs.Submit.{submission_of, submit}
use Rattle.bus_specs.specs.Inbox.{take_inbox}
use Rattle.log_specs.specs.Line.{line_text, log_text}
use Rattle.run_specs.specs.Run.{behind, head}
use Rattle.world_specs.specs.World.{World, opening}
use Rattle.world_specs.specs.Next.{next_event}
use Rattle.world_specs.specs.Network.{step, network, run_log}
use Rattle.worked_worlds.specs.Tables.{Table, tables, quiet, by, node, bus, line}

abbrev frame : Frame
frame = record { id = 0xff; ext = false; kind = Data; bytes = [] }

abbrev sender : Table
sender = record quiet { period = 10000000; ticks = by 0 (Transmit frame) ∷ [] }

abbrev gateway : Table
gateway = record quiet { rules = record { terminal = 0; bytes = spell (Transmit frame); answer = by 1 (Transmit frame) } ∷ [] }

abbrev world : World Table
world = opening (bus 0 (0 ∷ 1 ∷ []) ∷ bus 1 (1 ∷ 2 ∷ []) ∷ [])
    (node 0 (0 ∷ []) sender ∷ node 1 (0 ∷ 1 ∷ []) gateway ∷ node 2 (1 ∷ []) quiet ∷ [])

abbrev front : List ℕ
front = line (codes "10000000 0 req 0 0ff#")
    ++ line (codes "10000000 0 start 0 0ff#")
    ++ line (codes "10094000 0 done 0 0ff# to 1")
    ++ line (codes "10094000 1 req 1 0ff#")
    ++ line (codes "10094000 1 start 1 0ff#")

-- The gateway hears the frame and sends it on in its session of the same moment; the other bus starts it at once.
pub crossing : run_log tables 12000000 1000000 world ≡ front
    ++ line (codes "10188000 1 done 1 0ff# to 2")
    ++ line (codes "end 0 8")
unfolding stuff stuff_open stuffed time_of duration beats winner course start finish recover submit submission_of take_inbox spell items_in items_within item_in operation_at fields_at plain_at transmit_at fd_transmit_at classical_at fd_at classical_behind fd_behind checked lone_number error_at error_behind parameter_at next_event step behind head line_text digits
crossing = refl

-- With a budget of six events the frame on the second bus isn't delivered, and the status is 8.
pub spent : run_log tables 12000000 6 world ≡ front ++ line (codes "end 8 6")
unfolding stuff stuff_open stuffed time_of duration beats winner course start finish recover submit submission_of take_inbox spell items_in items_within item_in operation_at fields_at plain_at transmit_at fd_transmit_at classical_at fd_at classical_behind fd_behind checked lone_number error_at error_behind parameter_at next_event step behind head line_text digits
spent = refl

-- Behind the third event the run is saved and goes on: the lines up to there and those of the rest are the whole log.
pub resumed : log_text (head (network tables 12000000) 3 world) ++ run_log tables 12000000 999997 (behind (network tables 12000000) 3 world) ≡ front
    ++ line (codes "10188000 1 done 1 0ff# to 2")
    ++ line (codes "end 0 8")
unfolding stuff stuff_open stuffed time_of duration beats winner course start finish recover submit submission_of take_inbox spell items_in items_within item_in operation_at fields_at plain_at transmit_at fd_transmit_at classical_at fd_at classical_behind fd_behind checked lone_number error_at error_behind parameter_at next_event step behind head line_text digits
resumed = refl
