-- Nodes that wake each other, fail, end, and fail at the close.
use Rattle.std.specs.Prelude.{◌≡◌, [], ◌∷◌, ◌++◌, codes, refl}
use Rattle.std.specs.Fmt.{digits}
use Rattle.frame_specs.specs.Wire.{stuff, stuff_open, stuffed, time_of, duration}
use Rattle.frame_specs.specs.Dominance.{beats}
use Rattle.operation_specs.specs.Operation.{Wakeup, Sleep}
use Rattle.operation_specs.specs.Spelling.{spell}
use Rattle.bus_ops.specs.Fields.{operation_at, fields_at, plain_at, transmit_at, fd_transmit_at, classical_at, fd_at, classical_behind, fd_behind, checked, lone_number, error_at, error_behind, parameter_at}
use Rattle.bus_ops.specs.ItemsIn.{items_in, items_within, item_in}
use Rattle.bus_specs.specs.Bus.{winner}
use Rattle.bus_specs.specs.Start.{course, start}
use Rattle.bus_specs.specs.Finish.{finish, recover}
use Rattle.bus_specs.specs.Submit.{submission_of, submit}
use Rattle.bus_specs.specs.Inbox.{take_inbox}
use Rattle.log_specs.specs.Line.{Trap, Status3, line_text}
use Rattle.run_specs.specs.Run.{behind, head}
use Rattle.session_specs.specs.Outcome as session
use Rattle.world_specs.specs.World.{World, opening}
use Rattle.world_specs.specs.Next.{next_event}
use Rattle.world_specs.specs.Network.{step, run_log}
use Rattle.worked_worlds.specs.Tables.{Table, Rule, tables, quiet, by, node, bus, line}

abbrev wakes : Rule
wakes = record { terminal = 0; bytes = spell Wakeup; answer = by 0 Wakeup }

abbrev world : World Table
world = opening (bus 0 (0 ∷ 1 ∷ 2 ∷ 3 ∷ []) ∷ [])
    (node 0 (0 ∷ []) (record quiet { first = by 0 Wakeup ∷ [] })
    ∷ node 1 (0 ∷ []) (record quiet { first = by 0 Wakeup ∷ []; ends = session.Down Trap ∷ [] })
    ∷ node 2 (0 ∷ []) (record quiet { rules = wakes ∷ []; ends = session.Live ∷ session.Over ∷ [] })
    ∷ node 3 (0 ∷ []) (record quiet { first = by 0 Sleep ∷ []; close = session.Down Status3 })
    ∷ [])

-- Node 0 wakes the others at once. Node 1 fails then: what it emitted and the notice that it has just got are gone. Node 2 takes its
-- notice one bit later, wakes the others and ends by its own wish; node 0 takes that notice. Node 3 sleeps, wakes, and fails at the
-- close.
pub failing : run_log tables 1000000 1000000 world ≡ line (codes "0 0 wake 0")
    ++ line (codes "0 - down 1 Trap")
    ++ line (codes "0 0 sleep 3")
    ++ line (codes "2000 0 told 2 wake")
    ++ line (codes "2000 0 wake 2")
    ++ line (codes "2000 - over 2")
    ++ line (codes "2000 0 told 3 wake")
    ++ line (codes "4000 0 told 0 wake")
    ++ line (codes "4000 - down 3 Status3")
    ++ line (codes "end 0 3")
unfolding stuff stuff_open stuffed time_of duration beats winner course start finish recover submit submission_of take_inbox spell items_in items_within item_in operation_at fields_at plain_at transmit_at fd_transmit_at classical_at fd_at classical_behind fd_behind checked lone_number error_at error_behind parameter_at next_event step behind head line_text digits
failing = refl
