-- How the bytes that a unit emits become operations.
use Rattle.std.specs.Prelude.{◌≡◌, ℕ, false, [], ◌∷◌, ◌++◌, codes, refl}
use Rattle.std.specs.Fmt.{digits}
use Rattle.frame_specs.specs.Frame.{Frame, Data, Fd}
use Rattle.frame_specs.specs.Wire.{stuff, stuff_open, stuffed, time_of, duration}
use Rattle.frame_specs.specs.Dominance.{beats}
use Rattle.operation_specs.specs.Operation.{FdTransmit, Wakeup, Sleep, Confirm}
use Rattle.operation_specs.specs.Spelling.{spell}
use Rattle.bus_ops.specs.Fields.{operation_at, fields_at, plain_at, transmit_at, fd_transmit_at, classical_at, fd_at, classical_behind, fd_behind, checked, lone_number, error_at, error_behind, parameter_at}
use Rattle.bus_ops.specs.ItemsIn.{items_in, items_within, item_in}
use Rattle.bus_specs.specs.Bus.{winner}
use Rattle.bus_specs.specs.Start.{course, start}
use Rattle.bus_specs.specs.Finish.{finish, recover}
use Rattle.bus_specs.specs.Submit.{submission_of, submit}
use Rattle.bus_specs.specs.Inbox.{take_inbox}
use Rattle.log_specs.specs.Line.{line_text}
use Rattle.run_specs.specs.Run.{behind, head}
use Rattle.world_specs.specs.World.{World, opening}
use Rattle.world_specs.specs.Next.{next_event}
use Rattle.world_specs.specs.Network.{step, run_log}
use Rattle.worked_worlds.specs.Tables.{Table, tables, quiet, by, node, bus, line}

abbrev empty : ℕ → Frame
empty id = record { id = id; ext = false; kind = Data; bytes = [] }

-- One emission holds two operations and a byte that is none; the rest of an operation isn't looked for in the next emission.
abbrev pieces_world : World Table
pieces_world = opening (bus 0 (0 ∷ 1 ∷ []) ∷ [])
    (node 0 (0 ∷ []) (record quiet {
      first = record { terminal = 0; bytes = spell Sleep ++ spell Wakeup ++ 7 ∷ [] }
          ∷ record { terminal = 0; bytes = 0x42 ∷ 0 ∷ 0 ∷ 0 ∷ [] }
          ∷ record { terminal = 0; bytes = 8 ∷ 0 ∷ 0 ∷ 0 ∷ [] } ∷ [];
    })
    ∷ node 1 (0 ∷ []) quiet
    ∷ [])

-- The node is told of the first bad one alone, one bit later.
pub pieces : run_log tables 1000000 1000000 pieces_world ≡ line (codes "0 0 sleep 0")
    ++ line (codes "0 0 wake 0")
    ++ line (codes "0 0 bad 0 07")
    ++ line (codes "0 0 bad 0 42000000")
    ++ line (codes "0 0 bad 0 08000000")
    ++ line (codes "2000 0 told 0 format 07")
    ++ line (codes "2000 0 told 1 wake")
    ++ line (codes "end 0 2")
unfolding stuff stuff_open stuffed time_of duration beats winner course start finish recover submit submission_of take_inbox spell items_in items_within item_in operation_at fields_at plain_at transmit_at fd_transmit_at classical_at fd_at classical_behind fd_behind checked lone_number error_at error_behind parameter_at next_event step behind head line_text digits
pieces = refl

-- A node emits on two buses by turns: the operations are submitted bus by bus, on each in the order of emission. A confirmation isn't
-- for a node to send, and an FD frame needs an FD bus.
abbrev by_bus_world : World Table
by_bus_world = opening (bus 0 (0 ∷ 1 ∷ []) ∷ bus 1 (0 ∷ 1 ∷ []) ∷ [])
    (node 0 (1 ∷ 0 ∷ []) (record quiet { first = by 0 (Confirm 9) ∷ by 1 Sleep ∷ by 0 Sleep ∷ by 1 (FdTransmit (record { id = 1; ext = false; kind = Fd false false; bytes = [] })) ∷ [] })
    ∷ node 1 (0 ∷ 1 ∷ []) quiet
    ∷ [])

pub by_bus : run_log tables 1000 1000000 by_bus_world ≡ line (codes "0 0 sleep 0")
    ++ line (codes "0 0 bad 0 1100000011000000010000000000000000")
    ++ line (codes "0 1 bad 0 200000000c00000009000000")
    ++ line (codes "0 1 sleep 0")
    ++ line (codes "end 0 1")
unfolding stuff stuff_open stuffed time_of duration beats winner course start finish recover submit submission_of take_inbox spell items_in items_within item_in operation_at fields_at plain_at transmit_at fd_transmit_at classical_at fd_at classical_behind fd_behind checked lone_number error_at error_behind parameter_at next_event step behind head line_text digits
by_bus = refl
