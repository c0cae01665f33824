-- A network as its plan says, whose units answer their calls from lists of replies.
use Rattle.std.specs.Prelude.{◌≡◌, true, false, List, [], ◌∷◌, ◌++◌, None, codes, refl}
use Rattle.std.specs.Fmt.{digits}
use Rattle.frame_specs.specs.Frame.{Data}
use Rattle.frame_specs.specs.Wire.{stuff, stuff_open, stuffed, time_of, duration}
use Rattle.frame_specs.specs.Dominance.{beats}
use Rattle.operation_specs.specs.Operation.{Transmit}
use Rattle.operation_specs.specs.Spelling.{spell}
use Rattle.bus_ops.specs.Fields.{operation_at, fields_at, plain_at, transmit_at, fd_transmit_at, classical_at, fd_at, classical_behind, fd_behind, checked, lone_number, error_at, error_behind, parameter_at}
use Rattle.bus_ops.specs.ItemsIn.{items_in, items_within, item_in}
use Rattle.bus_specs.specs.Bus.{winner}
use Rattle.bus_specs.specs.Start.{course, start}
use Rattle.bus_specs.specs.Finish.{finish, recover}
use Rattle.bus_specs.specs.Submit.{submission_of, submit}
use Rattle.bus_specs.specs.Inbox.{take_inbox}
use Rattle.log_specs.specs.Line.{line_text}
use Rattle.run_specs.specs.Run.{behind, head}
use Rattle.fmi_states.specs.declared.reply.Reply.{Reply}
use Rattle.fmi_states.specs.declared.reply.Reply.TheVariants.{Plain, Clock, Data as Binary, Updated}
use Rattle.fmi_states.specs.declared.status.FmiStatus.TheVariants as status
use Rattle.fmi_states.specs.ListEcu.{list_answer, fresh_with}
use Rattle.unit_specs.specs.Description.{Description}
use Rattle.session_specs.specs.Session.{iterations}
use Rattle.world_specs.specs.Next.{next_event}
use Rattle.world_specs.specs.Network.{step, run_log}
use Rattle.world_specs.specs.Plan.{Plan, NodePlan, opening_of, units_of}
use Rattle.worked_worlds.specs.Tables.{line}

abbrev fine : Reply
fine = Plain status.Ok

abbrev one_terminal : Description
one_terminal = record {
  identifier = [];
  countdown = [];
  terminals = record { name = []; rx_data = 1; tx_data = 3; rx_clock = 0; tx_clock = 2; rx_max = 256; tx_max = 256 } ∷ [];
}

abbrev on_the_bus : NodePlan
on_the_bus = record { description = one_terminal; buses = 0 ∷ [] }

abbrev plan : Plan
plan = record {
  resolution = 1000000000;
  stop = 1000000;
  events = 1000000;
  fuel = 1000000;
  buses = record {
    setup = record { number = 0; rate = 500000; fd_rate = None; nominal = 2000; data_bit_time = None; errors = [] };
    members = 0 ∷ 1 ∷ 2 ∷ [];
  } ∷ [];
  nodes = on_the_bus ∷ on_the_bus ∷ on_the_bus ∷ [];
}

-- up to Event Mode; an iteration that is the last one, in which nothing is transmitted; a session's inputs, from Step Mode on
abbrev initialized : List Reply
initialized = fine ∷ fine ∷ fine ∷ []

abbrev nothing_sent : List Reply
nothing_sent = Clock status.Ok false ∷ Updated status.Ok false false ∷ fine ∷ []

abbrev received : List Reply
received = fine ∷ fine ∷ fine ∷ fine ∷ []

-- it transmits a frame, is told that it was sent, and is closed
abbrev sender : List Reply
sender = initialized
    ++ Clock status.Ok true ∷ Binary status.Ok (spell (Transmit (record { id = 0xff; ext = false; kind = Data; bytes = [] }))) ∷ Updated status.Ok false false ∷ fine ∷ []
    ++ received ++ nothing_sent ++ fine ∷ fine ∷ []

-- it receives the frame, and asks for the end of the simulation
abbrev receiver : List Reply
receiver = initialized ++ nothing_sent ++ received ++ Clock status.Ok false ∷ Updated status.Ok false true ∷ fine ∷ fine ∷ []

-- The third node doesn't answer: it is down from the start.
pub answering : run_log (units_of list_answer (λ s. s.phase) plan) plan.stop plan.events (opening_of plan (fresh_with sender ∷ fresh_with receiver ∷ fresh_with [] ∷ []))
    ≡ line (codes "0 0 req 0 0ff#")
    ++ line (codes "0 - down 2 BadReply")
    ++ line (codes "0 0 start 0 0ff#")
    ++ line (codes "94000 0 done 0 0ff# to 1")
    ++ line (codes "94000 - over 1")
    ++ line (codes "end 0 4")
unfolding stuff stuff_open stuffed time_of duration beats winner course start finish recover submit submission_of take_inbox spell items_in items_within item_in operation_at fields_at plain_at transmit_at fd_transmit_at classical_at fd_at classical_behind fd_behind checked lone_number error_at error_behind parameter_at iterations next_event step behind head line_text digits
answering = refl
