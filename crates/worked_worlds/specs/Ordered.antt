-- The order of one moment, clocks that tick once, and what a node that ends leaves behind.
use Rattle.std.specs.Prelude.{◌≡◌, ℕ, true, false, [], ◌∷◌, ◌++◌, codes, refl}
use Rattle.std.specs.Fmt.{digits}
use Rattle.frame_specs.specs.Frame.{Frame, Data}
use Rattle.frame_specs.specs.Wire.{stuff, stuff_open, stuffed, time_of, duration}
use Rattle.frame_specs.specs.Dominance.{beats}
use Rattle.operation_specs.specs.Operation.{Transmit}
use Rattle.operation_specs.specs.Spelling.{spell}
use Rattle.bus_ops.specs.Fields.{operation_at, fields_at, plain_at, transmit_at, fd_transmit_at, classical_at, fd_at, classical_behind, fd_behind, checked, lone_number, error_at, error_behind, parameter_at}
use Rattle.bus_ops.specs.ItemsIn.{items_in, items_within, item_in}
use Rattle.bus_specs.specs.Bus.{winner}
use Rattle.bus_specs.specs.Start.{course, start}
use Rattle.bus_specs.specs.Finish.{finish, recover}
use Rattle.bus_specs.specs.Submit.{submission_of, submit}
use Rattle.bus_specs.specs.Inbox.{take_inbox}
use Rattle.log_specs.specs.Line.{line_text}
use Rattle.run_specs.specs.Run.{behind, head}
use Rattle.session_specs.specs.Outcome as session
use Rattle.world_specs.specs.World.{World, opening}
use Rattle.world_specs.specs.Next.{next_event}
use Rattle.world_specs.specs.Network.{step, run_log}
use Rattle.worked_worlds.specs.Tables.{Table, tables, quiet, by, node, bus, line}

abbrev empty : ℕ → Frame
empty id = record { id = id; ext = false; kind = Data; bytes = [] }

-- The bus is idle again at the moment at which node 1 ticks: its frame is there when the next one starts.
abbrev sessions_first_world : World Table
sessions_first_world = opening (bus 0 (0 ∷ 1 ∷ []) ∷ [])
    (node 0 (0 ∷ []) (record quiet { first = by 0 (Transmit (empty 0x100)) ∷ by 0 (Transmit (empty 0x101)) ∷ [] })
    ∷ node 1 (0 ∷ []) (record quiet { period = 102000; ticks = by 0 (Transmit (empty 0xff)) ∷ [] })
    ∷ [])

pub sessions_first : run_log tables 201000 1000000 sessions_first_world ≡ line (codes "0 0 req 0 100#")
    ++ line (codes "0 0 req 0 101#")
    ++ line (codes "0 0 start 0 100#")
    ++ line (codes "96000 0 done 0 100# to 1")
    ++ line (codes "102000 0 req 1 0ff#")
    ++ line (codes "102000 0 start 1 0ff#")
    ++ line (codes "102000 0 lost 0 101# keep")
    ++ line (codes "196000 0 done 1 0ff# to 0")
    ++ line (codes "end 0 8")
unfolding stuff stuff_open stuffed time_of duration beats winner course start finish recover submit submission_of take_inbox spell items_in items_within item_in operation_at fields_at plain_at transmit_at fd_transmit_at classical_at fd_at classical_behind fd_behind checked lone_number error_at error_behind parameter_at next_event step behind head line_text digits
sessions_first = refl

-- Node 0 sends and ends in one session: its request doesn't start.
abbrev no_more_requests_world : World Table
no_more_requests_world = opening (bus 0 (0 ∷ 1 ∷ []) ∷ [])
    (node 0 (0 ∷ []) (record quiet { first = by 0 (Transmit (empty 0x100)) ∷ []; ends = session.Over ∷ [] })
    ∷ node 1 (0 ∷ []) quiet
    ∷ [])

pub no_more_requests : run_log tables 1000000 1000000 no_more_requests_world ≡ line (codes "0 0 req 0 100#")
    ++ line (codes "0 - over 0")
    ++ line (codes "end 0 1")
unfolding stuff stuff_open stuffed time_of duration beats winner course start finish recover submit submission_of take_inbox spell items_in items_within item_in operation_at fields_at plain_at transmit_at fd_transmit_at classical_at fd_at classical_behind fd_behind checked lone_number error_at error_behind parameter_at next_event step behind head line_text digits
no_more_requests = refl

-- A clock that its tick leaves as it is is no longer set.
abbrev ticks_once_world : World Table
ticks_once_world = opening (bus 0 (0 ∷ []) ∷ [])
    (node 0 (0 ∷ []) (record quiet { period = 5; once = true; reports = true })
    ∷ [])

pub ticks_once : run_log tables 1000000 1000000 ticks_once_world ≡ line (codes "5 0 ferr 0 00")
    ++ line (codes "end 0 2")
unfolding stuff stuff_open stuffed time_of duration beats winner course start finish recover submit submission_of take_inbox spell items_in items_within item_in operation_at fields_at plain_at transmit_at fd_transmit_at classical_at fd_at classical_behind fd_behind checked lone_number error_at error_behind parameter_at next_event step behind head line_text digits
ticks_once = refl

-- Each session is told the moment of the one before it.
abbrev sessions_join_world : World Table
sessions_join_world = opening (bus 0 (0 ∷ 1 ∷ []) ∷ [])
    (node 0 (0 ∷ []) (record quiet { period = 5; reports = true })
    ∷ node 1 (0 ∷ []) (record quiet { period = 7; reports = true })
    ∷ [])

pub sessions_join : run_log tables 17 1000000 sessions_join_world ≡ line (codes "5 0 ferr 0 00")
    ++ line (codes "7 0 ferr 1 00")
    ++ line (codes "10 0 ferr 0 05")
    ++ line (codes "14 0 ferr 1 07")
    ++ line (codes "15 0 ferr 0 0a")
    ++ line (codes "end 0 6")
unfolding stuff stuff_open stuffed time_of duration beats winner course start finish recover submit submission_of take_inbox spell items_in items_within item_in operation_at fields_at plain_at transmit_at fd_transmit_at classical_at fd_at classical_behind fd_behind checked lone_number error_at error_behind parameter_at next_event step behind head line_text digits
sessions_join = refl
