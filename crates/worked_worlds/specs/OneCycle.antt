-- Six nodes on two buses, a gateway and an FD frame: one whole cycle.
use Rattle.std.specs.Prelude.{◌≡◌, true, false, [], ◌∷◌, ◌++◌, Some, codes, refl}
use Rattle.std.specs.Fmt.{digits}
use Rattle.frame_specs.specs.Frame.{Frame, Data, Fd}
use Rattle.frame_specs.specs.Wire.{stuff, stuff_open, stuffed, time_of, duration}
use Rattle.frame_specs.specs.Dominance.{beats}
use Rattle.operation_specs.specs.Operation.{Transmit, FdTransmit}
use Rattle.operation_specs.specs.Spelling.{spell}
use Rattle.bus_ops.specs.Fields.{operation_at, fields_at, plain_at, transmit_at, fd_transmit_at, classical_at, fd_at, classical_behind, fd_behind, checked, lone_number, error_at, error_behind, parameter_at}
use Rattle.bus_ops.specs.ItemsIn.{items_in, items_within, item_in}
use Rattle.bus_specs.specs.Bus.{Bus, winner, new_bus}
use Rattle.bus_specs.specs.Start.{course, start}
use Rattle.bus_specs.specs.Finish.{finish, recover}
use Rattle.bus_specs.specs.Submit.{submission_of, submit}
use Rattle.bus_specs.specs.Inbox.{take_inbox}
use Rattle.log_specs.specs.Line.{line_text}
use Rattle.run_specs.specs.Run.{behind, head}
use Rattle.world_specs.specs.World.{World, opening}
use Rattle.world_specs.specs.Next.{next_event}
use Rattle.world_specs.specs.Network.{step, run_log}
use Rattle.worked_worlds.specs.Tables.{Table, Rule, tables, quiet, by, node, bus, line}

abbrev engine_frame : Frame
engine_frame = record { id = 0x100; ext = false; kind = Data; bytes = 0x17 ∷ 0x70 ∷ [] }

abbrev brake_frame : Frame
brake_frame = record { id = 0xff; ext = false; kind = Data; bytes = [] }

abbrev light_frame : Frame
light_frame = record { id = 0x300; ext = false; kind = Fd true false; bytes = 0x55 ∷ 0x55 ∷ 0x55 ∷ 0x55 ∷ 0x55 ∷ 0x55 ∷ 0x55 ∷ 0x55 ∷ [] }

abbrev sends : Frame → Table
sends f = record quiet { period = 10000000; ticks = by 0 (Transmit f) ∷ [] }

abbrev passes : Frame → Rule
passes f = record { terminal = 0; bytes = spell (Transmit f); answer = by 1 (Transmit f) }

abbrev body : Bus
body = bus 0 (0 ∷ 1 ∷ 2 ∷ 5 ∷ [])

abbrev comfort : Bus
comfort = new_bus (record { number = 1; rate = 500000; fd_rate = Some 2000000; nominal = 2000; data_bit_time = Some 500; errors = [] }) (2 ∷ 3 ∷ 4 ∷ [])

abbrev world : World Table
world = opening (body ∷ comfort ∷ [])
    (node 0 (0 ∷ []) (sends engine_frame)
    ∷ node 1 (0 ∷ []) (sends brake_frame)
    ∷ node 2 (0 ∷ 1 ∷ []) (record quiet { rules = passes engine_frame ∷ passes brake_frame ∷ [] })
    ∷ node 3 (1 ∷ []) quiet
    ∷ node 4 (1 ∷ []) (record quiet { period = 10000000; ticks = by 0 (FdTransmit light_frame) ∷ [] })
    ∷ node 5 (0 ∷ []) quiet
    ∷ [])

-- Three nodes tick at one moment, and their frames arbitrate on their buses; the gateway's go on behind each delivery.
pub one_cycle : run_log tables 20000000 1000000 world ≡ line (codes "10000000 0 req 0 100#1770")
    ++ line (codes "10000000 0 req 1 0ff#")
    ++ line (codes "10000000 1 req 4 300##15555555555555555")
    ++ line (codes "10000000 0 start 1 0ff#")
    ++ line (codes "10000000 0 lost 0 100#1770 keep")
    ++ line (codes "10000000 1 start 4 300##15555555555555555")
    ++ line (codes "10094000 0 done 1 0ff# to 0,2,5")
    ++ line (codes "10094000 1 req 2 0ff#")
    ++ line (codes "10100000 0 start 0 100#1770")
    ++ line (codes "10106000 1 done 4 300##15555555555555555 to 2,3")
    ++ line (codes "10112000 1 start 2 0ff#")
    ++ line (codes "10206000 1 done 2 0ff# to 3,4")
    ++ line (codes "10224000 0 done 0 100#1770 to 1,2,5")
    ++ line (codes "10224000 1 req 2 100#1770")
    ++ line (codes "10224000 1 start 2 100#1770")
    ++ line (codes "10348000 1 done 2 100#1770 to 3,4")
    ++ line (codes "20000000 0 req 0 100#1770")
    ++ line (codes "20000000 0 req 1 0ff#")
    ++ line (codes "20000000 1 req 4 300##15555555555555555")
    ++ line (codes "20000000 0 start 1 0ff#")
    ++ line (codes "20000000 0 lost 0 100#1770 keep")
    ++ line (codes "20000000 1 start 4 300##15555555555555555")
    ++ line (codes "end 0 20")
unfolding stuff stuff_open stuffed time_of duration beats winner course start finish recover submit submission_of take_inbox spell items_in items_within item_in operation_at fields_at plain_at transmit_at fd_transmit_at classical_at fd_at classical_behind fd_behind checked lone_number error_at error_behind parameter_at next_event step behind head line_text digits
one_cycle = refl
