-- a full queue
use Rattle.std.specs.Prelude.{◌≡◌, ℕ, false, List, [], ◌∷◌, ◌++◌, None, codes, refl}
use Rattle.std.specs.Fmt.{digits}
use Rattle.frame_specs.specs.Frame.{Data}
use Rattle.frame_specs.specs.Wire.{stuff, stuff_open, stuffed, time_of, duration}
use Rattle.frame_specs.specs.Dominance.{beats}
use Rattle.operation_specs.specs.Operation.{Transmit}
use Rattle.operation_specs.specs.Reading.{Op}
use Rattle.bus_specs.specs.Bus.{winner}
use Rattle.bus_specs.specs.Start.{course, start}
use Rattle.bus_specs.specs.Finish.{finish, recover}
use Rattle.bus_specs.specs.Submit.{submission_of, submit}
use Rattle.bus_specs.specs.Inbox.{take_inbox}
use Rattle.log_specs.specs.Line.{line_text}
use Rattle.bus_specs.specs.Due.{next_due}
use Rattle.run_specs.specs.Run.{behind, head}
use Rattle.play_specs.specs.Scenario.{Scenario, next_event, scenario_log}

abbrev line : List ℕ → List ℕ
line text = text ++ 10 ∷ []

abbrev play : Scenario
play = record {
  setup = record { number = 0; nominal = 2000; data_bit_time = None; rate = 500000; fd_rate = None; errors = [] };
  nodes = 0 ∷ 1 ∷ [];
  stop = 100000;
  actions = record { moment = 0; node = 0; item = Op (Transmit (record { id = 0x7ff; ext = false; kind = Data; bytes = [] })) }
      ∷ record { moment = 0; node = 0; item = Op (Transmit (record { id = 0x7ff; ext = false; kind = Data; bytes = [] })) }
      ∷ record { moment = 0; node = 0; item = Op (Transmit (record { id = 0x7ff; ext = false; kind = Data; bytes = [] })) }
      ∷ record { moment = 0; node = 0; item = Op (Transmit (record { id = 0x7ff; ext = false; kind = Data; bytes = [] })) }
      ∷ record { moment = 0; node = 0; item = Op (Transmit (record { id = 0x7ff; ext = false; kind = Data; bytes = [] })) }
      ∷ record { moment = 0; node = 0; item = Op (Transmit (record { id = 0x7ff; ext = false; kind = Data; bytes = [] })) }
      ∷ record { moment = 0; node = 0; item = Op (Transmit (record { id = 0x7ff; ext = false; kind = Data; bytes = [] })) }
      ∷ record { moment = 0; node = 0; item = Op (Transmit (record { id = 0x7ff; ext = false; kind = Data; bytes = [] })) }
      ∷ record { moment = 0; node = 0; item = Op (Transmit (record { id = 0x7ff; ext = false; kind = Data; bytes = [] })) }
      ∷ record { moment = 0; node = 0; item = Op (Transmit (record { id = 0x7ff; ext = false; kind = Data; bytes = [] })) }
      ∷ record { moment = 0; node = 0; item = Op (Transmit (record { id = 0x7ff; ext = false; kind = Data; bytes = [] })) }
      ∷ record { moment = 0; node = 0; item = Op (Transmit (record { id = 0x7ff; ext = false; kind = Data; bytes = [] })) }
      ∷ record { moment = 0; node = 0; item = Op (Transmit (record { id = 0x7ff; ext = false; kind = Data; bytes = [] })) }
      ∷ record { moment = 0; node = 0; item = Op (Transmit (record { id = 0x7ff; ext = false; kind = Data; bytes = [] })) }
      ∷ record { moment = 0; node = 0; item = Op (Transmit (record { id = 0x7ff; ext = false; kind = Data; bytes = [] })) }
      ∷ record { moment = 0; node = 0; item = Op (Transmit (record { id = 0x7ff; ext = false; kind = Data; bytes = [] })) }
      ∷ record { moment = 0; node = 0; item = Op (Transmit (record { id = 0x7ff; ext = false; kind = Data; bytes = [] })) }
      ∷ record { moment = 0; node = 0; item = Op (Transmit (record { id = 0x7ff; ext = false; kind = Data; bytes = [] })) }
      ∷ record { moment = 0; node = 0; item = Op (Transmit (record { id = 0x7ff; ext = false; kind = Data; bytes = [] })) }
      ∷ record { moment = 0; node = 0; item = Op (Transmit (record { id = 0x7ff; ext = false; kind = Data; bytes = [] })) }
      ∷ record { moment = 0; node = 0; item = Op (Transmit (record { id = 0x7ff; ext = false; kind = Data; bytes = [] })) }
      ∷ record { moment = 0; node = 0; item = Op (Transmit (record { id = 0x7ff; ext = false; kind = Data; bytes = [] })) }
      ∷ record { moment = 0; node = 0; item = Op (Transmit (record { id = 0x7ff; ext = false; kind = Data; bytes = [] })) }
      ∷ record { moment = 0; node = 0; item = Op (Transmit (record { id = 0x7ff; ext = false; kind = Data; bytes = [] })) }
      ∷ record { moment = 0; node = 0; item = Op (Transmit (record { id = 0x7ff; ext = false; kind = Data; bytes = [] })) }
      ∷ record { moment = 0; node = 0; item = Op (Transmit (record { id = 0x7ff; ext = false; kind = Data; bytes = [] })) }
      ∷ record { moment = 0; node = 0; item = Op (Transmit (record { id = 0x7ff; ext = false; kind = Data; bytes = [] })) }
      ∷ record { moment = 0; node = 0; item = Op (Transmit (record { id = 0x7ff; ext = false; kind = Data; bytes = [] })) }
      ∷ record { moment = 0; node = 0; item = Op (Transmit (record { id = 0x7ff; ext = false; kind = Data; bytes = [] })) }
      ∷ record { moment = 0; node = 0; item = Op (Transmit (record { id = 0x7ff; ext = false; kind = Data; bytes = [] })) }
      ∷ record { moment = 0; node = 0; item = Op (Transmit (record { id = 0x7ff; ext = false; kind = Data; bytes = [] })) }
      ∷ record { moment = 0; node = 0; item = Op (Transmit (record { id = 0x7ff; ext = false; kind = Data; bytes = [] })) }
      ∷ record { moment = 0; node = 0; item = Op (Transmit (record { id = 0x7ff; ext = false; kind = Data; bytes = [] })) }
      ∷ record { moment = 0; node = 0; item = Op (Transmit (record { id = 0x7ff; ext = false; kind = Data; bytes = [] })) }
      ∷ record { moment = 0; node = 0; item = Op (Transmit (record { id = 0x7ff; ext = false; kind = Data; bytes = [] })) }
      ∷ record { moment = 0; node = 0; item = Op (Transmit (record { id = 0x7ff; ext = false; kind = Data; bytes = [] })) }
      ∷ record { moment = 0; node = 0; item = Op (Transmit (record { id = 0x7ff; ext = false; kind = Data; bytes = [] })) }
      ∷ record { moment = 0; node = 0; item = Op (Transmit (record { id = 0x7ff; ext = false; kind = Data; bytes = [] })) }
      ∷ record { moment = 0; node = 0; item = Op (Transmit (record { id = 0x7ff; ext = false; kind = Data; bytes = [] })) }
      ∷ record { moment = 0; node = 0; item = Op (Transmit (record { id = 0x7ff; ext = false; kind = Data; bytes = [] })) }
      ∷ record { moment = 0; node = 0; item = Op (Transmit (record { id = 0x7ff; ext = false; kind = Data; bytes = [] })) }
      ∷ record { moment = 0; node = 0; item = Op (Transmit (record { id = 0x7ff; ext = false; kind = Data; bytes = [] })) }
      ∷ record { moment = 0; node = 0; item = Op (Transmit (record { id = 0x7ff; ext = false; kind = Data; bytes = [] })) }
      ∷ record { moment = 0; node = 0; item = Op (Transmit (record { id = 0x7ff; ext = false; kind = Data; bytes = [] })) }
      ∷ record { moment = 0; node = 0; item = Op (Transmit (record { id = 0x7ff; ext = false; kind = Data; bytes = [] })) }
      ∷ record { moment = 0; node = 0; item = Op (Transmit (record { id = 0x7ff; ext = false; kind = Data; bytes = [] })) }
      ∷ record { moment = 0; node = 0; item = Op (Transmit (record { id = 0x7ff; ext = false; kind = Data; bytes = [] })) }
      ∷ record { moment = 0; node = 0; item = Op (Transmit (record { id = 0x7ff; ext = false; kind = Data; bytes = [] })) }
      ∷ record { moment = 0; node = 0; item = Op (Transmit (record { id = 0x7ff; ext = false; kind = Data; bytes = [] })) }
      ∷ record { moment = 0; node = 0; item = Op (Transmit (record { id = 0x7ff; ext = false; kind = Data; bytes = [] })) }
      ∷ record { moment = 0; node = 0; item = Op (Transmit (record { id = 0x7ff; ext = false; kind = Data; bytes = [] })) }
      ∷ record { moment = 0; node = 0; item = Op (Transmit (record { id = 0x7ff; ext = false; kind = Data; bytes = [] })) }
      ∷ record { moment = 0; node = 0; item = Op (Transmit (record { id = 0x7ff; ext = false; kind = Data; bytes = [] })) }
      ∷ record { moment = 0; node = 0; item = Op (Transmit (record { id = 0x7ff; ext = false; kind = Data; bytes = [] })) }
      ∷ record { moment = 0; node = 0; item = Op (Transmit (record { id = 0x7ff; ext = false; kind = Data; bytes = [] })) }
      ∷ record { moment = 0; node = 0; item = Op (Transmit (record { id = 0x7ff; ext = false; kind = Data; bytes = [] })) }
      ∷ record { moment = 0; node = 0; item = Op (Transmit (record { id = 0x7ff; ext = false; kind = Data; bytes = [] })) }
      ∷ record { moment = 0; node = 0; item = Op (Transmit (record { id = 0x7ff; ext = false; kind = Data; bytes = [] })) }
      ∷ record { moment = 0; node = 0; item = Op (Transmit (record { id = 0x7ff; ext = false; kind = Data; bytes = [] })) }
      ∷ record { moment = 0; node = 0; item = Op (Transmit (record { id = 0x7ff; ext = false; kind = Data; bytes = [] })) }
      ∷ record { moment = 0; node = 0; item = Op (Transmit (record { id = 0x7ff; ext = false; kind = Data; bytes = [] })) }
      ∷ record { moment = 0; node = 0; item = Op (Transmit (record { id = 0x7ff; ext = false; kind = Data; bytes = [] })) }
      ∷ record { moment = 0; node = 0; item = Op (Transmit (record { id = 0x7ff; ext = false; kind = Data; bytes = [] })) }
      ∷ record { moment = 0; node = 0; item = Op (Transmit (record { id = 0x7ff; ext = false; kind = Data; bytes = [] })) }
      ∷ record { moment = 0; node = 0; item = Op (Transmit (record { id = 0x7ff; ext = false; kind = Data; bytes = [] })) }
      ∷ record { moment = 0; node = 0; item = Op (Transmit (record { id = 0x7ff; ext = false; kind = Data; bytes = [] })) }
      ∷ record { moment = 0; node = 0; item = Op (Transmit (record { id = 0x7ff; ext = false; kind = Data; bytes = [] })) }
      ∷ record { moment = 0; node = 0; item = Op (Transmit (record { id = 0x7ff; ext = false; kind = Data; bytes = [] })) }
      ∷ record { moment = 0; node = 0; item = Op (Transmit (record { id = 0x7ff; ext = false; kind = Data; bytes = [] })) }
      ∷ record { moment = 0; node = 0; item = Op (Transmit (record { id = 0x7ff; ext = false; kind = Data; bytes = [] })) }
      ∷ record { moment = 0; node = 0; item = Op (Transmit (record { id = 0x7ff; ext = false; kind = Data; bytes = [] })) }
      ∷ record { moment = 0; node = 0; item = Op (Transmit (record { id = 0x7ff; ext = false; kind = Data; bytes = [] })) }
      ∷ record { moment = 0; node = 0; item = Op (Transmit (record { id = 0x7ff; ext = false; kind = Data; bytes = [] })) }
      ∷ record { moment = 0; node = 0; item = Op (Transmit (record { id = 0x7ff; ext = false; kind = Data; bytes = [] })) }
      ∷ record { moment = 0; node = 0; item = Op (Transmit (record { id = 0x7ff; ext = false; kind = Data; bytes = [] })) }
      ∷ record { moment = 0; node = 0; item = Op (Transmit (record { id = 0x7ff; ext = false; kind = Data; bytes = [] })) }
      ∷ record { moment = 0; node = 0; item = Op (Transmit (record { id = 0x7ff; ext = false; kind = Data; bytes = [] })) }
      ∷ record { moment = 0; node = 0; item = Op (Transmit (record { id = 0x7ff; ext = false; kind = Data; bytes = [] })) }
      ∷ record { moment = 0; node = 0; item = Op (Transmit (record { id = 0x7ff; ext = false; kind = Data; bytes = [] })) }
      ∷ record { moment = 0; node = 0; item = Op (Transmit (record { id = 0x7ff; ext = false; kind = Data; bytes = [] })) }
      ∷ record { moment = 0; node = 0; item = Op (Transmit (record { id = 0x7ff; ext = false; kind = Data; bytes = [] })) }
      ∷ record { moment = 0; node = 0; item = Op (Transmit (record { id = 0x7ff; ext = false; kind = Data; bytes = [] })) }
      ∷ record { moment = 0; node = 0; item = Op (Transmit (record { id = 0x7ff; ext = false; kind = Data; bytes = [] })) }
      ∷ record { moment = 0; node = 0; item = Op (Transmit (record { id = 0x7ff; ext = false; kind = Data; bytes = [] })) }
      ∷ record { moment = 0; node = 0; item = Op (Transmit (record { id = 0x7ff; ext = false; kind = Data; bytes = [] })) }
      ∷ record { moment = 0; node = 0; item = Op (Transmit (record { id = 0x7ff; ext = false; kind = Data; bytes = [] })) }
      ∷ record { moment = 0; node = 0; item = Op (Transmit (record { id = 0x7ff; ext = false; kind = Data; bytes = [] })) }
      ∷ record { moment = 0; node = 0; item = Op (Transmit (record { id = 0x7ff; ext = false; kind = Data; bytes = [] })) }
      ∷ record { moment = 0; node = 0; item = Op (Transmit (record { id = 0x7ff; ext = false; kind = Data; bytes = [] })) }
      ∷ record { moment = 0; node = 0; item = Op (Transmit (record { id = 0x7ff; ext = false; kind = Data; bytes = [] })) }
      ∷ record { moment = 0; node = 0; item = Op (Transmit (record { id = 0x7ff; ext = false; kind = Data; bytes = [] })) }
      ∷ record { moment = 0; node = 0; item = Op (Transmit (record { id = 0x7ff; ext = false; kind = Data; bytes = [] })) }
      ∷ record { moment = 0; node = 0; item = Op (Transmit (record { id = 0x7ff; ext = false; kind = Data; bytes = [] })) }
      ∷ record { moment = 0; node = 0; item = Op (Transmit (record { id = 0x7ff; ext = false; kind = Data; bytes = [] })) }
      ∷ record { moment = 0; node = 0; item = Op (Transmit (record { id = 0x7ff; ext = false; kind = Data; bytes = [] })) }
      ∷ record { moment = 0; node = 0; item = Op (Transmit (record { id = 0x7ff; ext = false; kind = Data; bytes = [] })) }
      ∷ record { moment = 0; node = 0; item = Op (Transmit (record { id = 0x7ff; ext = false; kind = Data; bytes = [] })) }
      ∷ record { moment = 0; node = 0; item = Op (Transmit (record { id = 0x7ff; ext = false; kind = Data; bytes = [] })) }
      ∷ record { moment = 0; node = 0; item = Op (Transmit (record { id = 0x7ff; ext = false; kind = Data; bytes = [] })) }
      ∷ record { moment = 0; node = 0; item = Op (Transmit (record { id = 0x7ff; ext = false; kind = Data; bytes = [] })) }
      ∷ record { moment = 0; node = 0; item = Op (Transmit (record { id = 0x7ff; ext = false; kind = Data; bytes = [] })) }
      ∷ record { moment = 0; node = 0; item = Op (Transmit (record { id = 0x7ff; ext = false; kind = Data; bytes = [] })) }
      ∷ record { moment = 0; node = 0; item = Op (Transmit (record { id = 0x7ff; ext = false; kind = Data; bytes = [] })) }
      ∷ record { moment = 0; node = 0; item = Op (Transmit (record { id = 0x7ff; ext = false; kind = Data; bytes = [] })) }
      ∷ record { moment = 0; node = 0; item = Op (Transmit (record { id = 0x7ff; ext = false; kind = Data; bytes = [] })) }
      ∷ record { moment = 0; node = 0; item = Op (Transmit (record { id = 0x7ff; ext = false; kind = Data; bytes = [] })) }
      ∷ record { moment = 0; node = 0; item = Op (Transmit (record { id = 0x7ff; ext = false; kind = Data; bytes = [] })) }
      ∷ record { moment = 0; node = 0; item = Op (Transmit (record { id = 0x7ff; ext = false; kind = Data; bytes = [] })) }
      ∷ record { moment = 0; node = 0; item = Op (Transmit (record { id = 0x7ff; ext = false; kind = Data; bytes = [] })) }
      ∷ record { moment = 0; node = 0; item = Op (Transmit (record { id = 0x7ff; ext = false; kind = Data; bytes = [] })) }
      ∷ record { moment = 0; node = 0; item = Op (Transmit (record { id = 0x7ff; ext = false; kind = Data; bytes = [] })) }
      ∷ record { moment = 0; node = 0; item = Op (Transmit (record { id = 0x7ff; ext = false; kind = Data; bytes = [] })) }
      ∷ record { moment = 0; node = 0; item = Op (Transmit (record { id = 0x7ff; ext = false; kind = Data; bytes = [] })) }
      ∷ record { moment = 0; node = 0; item = Op (Transmit (record { id = 0x7ff; ext = false; kind = Data; bytes = [] })) }
      ∷ record { moment = 0; node = 0; item = Op (Transmit (record { id = 0x7ff; ext = false; kind = Data; bytes = [] })) }
      ∷ record { moment = 0; node = 0; item = Op (Transmit (record { id = 0x7ff; ext = false; kind = Data; bytes = [] })) }
      ∷ record { moment = 0; node = 0; item = Op (Transmit (record { id = 0x7ff; ext = false; kind = Data; bytes = [] })) }
      ∷ record { moment = 0; node = 0; item = Op (Transmit (record { id = 0x7ff; ext = false; kind = Data; bytes = [] })) }
      ∷ record { moment = 0; node = 0; item = Op (Transmit (record { id = 0x7ff; ext = false; kind = Data; bytes = [] })) }
      ∷ record { moment = 0; node = 0; item = Op (Transmit (record { id = 0x7ff; ext = false; kind = Data; bytes = [] })) }
      ∷ record { moment = 0; node = 0; item = Op (Transmit (record { id = 0x7ff; ext = false; kind = Data; bytes = [] })) }
      ∷ record { moment = 0; node = 0; item = Op (Transmit (record { id = 0x7ff; ext = false; kind = Data; bytes = [] })) }
      ∷ record { moment = 0; node = 0; item = Op (Transmit (record { id = 0x7ff; ext = false; kind = Data; bytes = [] })) }
      ∷ record { moment = 0; node = 0; item = Op (Transmit (record { id = 0x7ff; ext = false; kind = Data; bytes = [] })) }
      ∷ record { moment = 0; node = 0; item = Op (Transmit (record { id = 0x7ff; ext = false; kind = Data; bytes = [] })) }
      ∷ record { moment = 0; node = 0; item = Op (Transmit (record { id = 0x7ff; ext = false; kind = Data; bytes = [] })) }
      ∷ record { moment = 0; node = 0; item = Op (Transmit (record { id = 0x7ff; ext = false; kind = Data; bytes = [] })) }
      ∷ record { moment = 0; node = 0; item = Op (Transmit (record { id = 0x7ff; ext = false; kind = Data; bytes = [] })) }
      ∷ record { moment = 0; node = 0; item = Op (Transmit (record { id = 0x7ff; ext = false; kind = Data; bytes = [] })) }
      ∷ record { moment = 0; node = 0; item = Op (Transmit (record { id = 0x7ff; ext = false; kind = Data; bytes = [] })) }
      ∷ record { moment = 0; node = 0; item = Op (Transmit (record { id = 0x7ff; ext = false; kind = Data; bytes = [] })) }
      ∷ record { moment = 0; node = 0; item = Op (Transmit (record { id = 0x7ff; ext = false; kind = Data; bytes = [] })) }
      ∷ record { moment = 0; node = 0; item = Op (Transmit (record { id = 0x7ff; ext = false; kind = Data; bytes = [] })) }
      ∷ record { moment = 0; node = 0; item = Op (Transmit (record { id = 0x7ff; ext = false; kind = Data; bytes = [] })) }
      ∷ record { moment = 0; node = 0; item = Op (Transmit (record { id = 0x7ff; ext = false; kind = Data; bytes = [] })) }
      ∷ record { moment = 0; node = 0; item = Op (Transmit (record { id = 0x7ff; ext = false; kind = Data; bytes = [] })) }
      ∷ record { moment = 0; node = 0; item = Op (Transmit (record { id = 0x7ff; ext = false; kind = Data; bytes = [] })) }
      ∷ record { moment = 0; node = 0; item = Op (Transmit (record { id = 0x7ff; ext = false; kind = Data; bytes = [] })) }
      ∷ record { moment = 0; node = 0; item = Op (Transmit (record { id = 0x7ff; ext = false; kind = Data; bytes = [] })) }
      ∷ record { moment = 0; node = 0; item = Op (Transmit (record { id = 0x7ff; ext = false; kind = Data; bytes = [] })) }
      ∷ record { moment = 0; node = 0; item = Op (Transmit (record { id = 0x7ff; ext = false; kind = Data; bytes = [] })) }
      ∷ record { moment = 0; node = 0; item = Op (Transmit (record { id = 0x7ff; ext = false; kind = Data; bytes = [] })) }
      ∷ record { moment = 0; node = 0; item = Op (Transmit (record { id = 0x7ff; ext = false; kind = Data; bytes = [] })) }
      ∷ record { moment = 0; node = 0; item = Op (Transmit (record { id = 0x7ff; ext = false; kind = Data; bytes = [] })) }
      ∷ record { moment = 0; node = 0; item = Op (Transmit (record { id = 0x7ff; ext = false; kind = Data; bytes = [] })) }
      ∷ record { moment = 0; node = 0; item = Op (Transmit (record { id = 0x7ff; ext = false; kind = Data; bytes = [] })) }
      ∷ record { moment = 0; node = 0; item = Op (Transmit (record { id = 0x7ff; ext = false; kind = Data; bytes = [] })) }
      ∷ record { moment = 0; node = 0; item = Op (Transmit (record { id = 0x7ff; ext = false; kind = Data; bytes = [] })) }
      ∷ record { moment = 0; node = 0; item = Op (Transmit (record { id = 0x7ff; ext = false; kind = Data; bytes = [] })) }
      ∷ record { moment = 0; node = 0; item = Op (Transmit (record { id = 0x7ff; ext = false; kind = Data; bytes = [] })) }
      ∷ record { moment = 0; node = 0; item = Op (Transmit (record { id = 0x7ff; ext = false; kind = Data; bytes = [] })) }
      ∷ record { moment = 0; node = 0; item = Op (Transmit (record { id = 0x7ff; ext = false; kind = Data; bytes = [] })) }
      ∷ record { moment = 0; node = 0; item = Op (Transmit (record { id = 0x7ff; ext = false; kind = Data; bytes = [] })) }
      ∷ record { moment = 0; node = 0; item = Op (Transmit (record { id = 0x7ff; ext = false; kind = Data; bytes = [] })) }
      ∷ record { moment = 0; node = 0; item = Op (Transmit (record { id = 0x7ff; ext = false; kind = Data; bytes = [] })) }
      ∷ record { moment = 0; node = 0; item = Op (Transmit (record { id = 0x7ff; ext = false; kind = Data; bytes = [] })) }
      ∷ record { moment = 0; node = 0; item = Op (Transmit (record { id = 0x7ff; ext = false; kind = Data; bytes = [] })) }
      ∷ record { moment = 0; node = 0; item = Op (Transmit (record { id = 0x7ff; ext = false; kind = Data; bytes = [] })) }
      ∷ record { moment = 0; node = 0; item = Op (Transmit (record { id = 0x7ff; ext = false; kind = Data; bytes = [] })) }
      ∷ record { moment = 0; node = 0; item = Op (Transmit (record { id = 0x7ff; ext = false; kind = Data; bytes = [] })) }
      ∷ record { moment = 0; node = 0; item = Op (Transmit (record { id = 0x7ff; ext = false; kind = Data; bytes = [] })) }
      ∷ record { moment = 0; node = 0; item = Op (Transmit (record { id = 0x7ff; ext = false; kind = Data; bytes = [] })) }
      ∷ record { moment = 0; node = 0; item = Op (Transmit (record { id = 0x7ff; ext = false; kind = Data; bytes = [] })) }
      ∷ record { moment = 0; node = 0; item = Op (Transmit (record { id = 0x7ff; ext = false; kind = Data; bytes = [] })) }
      ∷ record { moment = 0; node = 0; item = Op (Transmit (record { id = 0x7ff; ext = false; kind = Data; bytes = [] })) }
      ∷ record { moment = 0; node = 0; item = Op (Transmit (record { id = 0x7ff; ext = false; kind = Data; bytes = [] })) }
      ∷ record { moment = 0; node = 0; item = Op (Transmit (record { id = 0x7ff; ext = false; kind = Data; bytes = [] })) }
      ∷ record { moment = 0; node = 0; item = Op (Transmit (record { id = 0x7ff; ext = false; kind = Data; bytes = [] })) }
      ∷ record { moment = 0; node = 0; item = Op (Transmit (record { id = 0x7ff; ext = false; kind = Data; bytes = [] })) }
      ∷ record { moment = 0; node = 0; item = Op (Transmit (record { id = 0x7ff; ext = false; kind = Data; bytes = [] })) }
      ∷ record { moment = 0; node = 0; item = Op (Transmit (record { id = 0x7ff; ext = false; kind = Data; bytes = [] })) }
      ∷ record { moment = 0; node = 0; item = Op (Transmit (record { id = 0x7ff; ext = false; kind = Data; bytes = [] })) }
      ∷ record { moment = 0; node = 0; item = Op (Transmit (record { id = 0x7ff; ext = false; kind = Data; bytes = [] })) }
      ∷ record { moment = 0; node = 0; item = Op (Transmit (record { id = 0x7ff; ext = false; kind = Data; bytes = [] })) }
      ∷ record { moment = 0; node = 0; item = Op (Transmit (record { id = 0x7ff; ext = false; kind = Data; bytes = [] })) }
      ∷ record { moment = 0; node = 0; item = Op (Transmit (record { id = 0x7ff; ext = false; kind = Data; bytes = [] })) }
      ∷ record { moment = 0; node = 0; item = Op (Transmit (record { id = 0x7ff; ext = false; kind = Data; bytes = [] })) }
      ∷ record { moment = 0; node = 0; item = Op (Transmit (record { id = 0x7ff; ext = false; kind = Data; bytes = [] })) }
      ∷ record { moment = 0; node = 0; item = Op (Transmit (record { id = 0x7ff; ext = false; kind = Data; bytes = [] })) }
      ∷ record { moment = 0; node = 0; item = Op (Transmit (record { id = 0x7ff; ext = false; kind = Data; bytes = [] })) }
      ∷ record { moment = 0; node = 0; item = Op (Transmit (record { id = 0x7ff; ext = false; kind = Data; bytes = [] })) }
      ∷ record { moment = 0; node = 0; item = Op (Transmit (record { id = 0x7ff; ext = false; kind = Data; bytes = [] })) }
      ∷ record { moment = 0; node = 0; item = Op (Transmit (record { id = 0x7ff; ext = false; kind = Data; bytes = [] })) }
      ∷ record { moment = 0; node = 0; item = Op (Transmit (record { id = 0x7ff; ext = false; kind = Data; bytes = [] })) }
      ∷ record { moment = 0; node = 0; item = Op (Transmit (record { id = 0x7ff; ext = false; kind = Data; bytes = [] })) }
      ∷ record { moment = 0; node = 0; item = Op (Transmit (record { id = 0x7ff; ext = false; kind = Data; bytes = [] })) }
      ∷ record { moment = 0; node = 0; item = Op (Transmit (record { id = 0x7ff; ext = false; kind = Data; bytes = [] })) }
      ∷ record { moment = 0; node = 0; item = Op (Transmit (record { id = 0x7ff; ext = false; kind = Data; bytes = [] })) }
      ∷ record { moment = 0; node = 0; item = Op (Transmit (record { id = 0x7ff; ext = false; kind = Data; bytes = [] })) }
      ∷ record { moment = 0; node = 0; item = Op (Transmit (record { id = 0x7ff; ext = false; kind = Data; bytes = [] })) }
      ∷ record { moment = 0; node = 0; item = Op (Transmit (record { id = 0x7ff; ext = false; kind = Data; bytes = [] })) }
      ∷ record { moment = 0; node = 0; item = Op (Transmit (record { id = 0x7ff; ext = false; kind = Data; bytes = [] })) }
      ∷ record { moment = 0; node = 0; item = Op (Transmit (record { id = 0x7ff; ext = false; kind = Data; bytes = [] })) }
      ∷ record { moment = 0; node = 0; item = Op (Transmit (record { id = 0x7ff; ext = false; kind = Data; bytes = [] })) }
      ∷ record { moment = 0; node = 0; item = Op (Transmit (record { id = 0x7ff; ext = false; kind = Data; bytes = [] })) }
      ∷ record { moment = 0; node = 0; item = Op (Transmit (record { id = 0x7ff; ext = false; kind = Data; bytes = [] })) }
      ∷ record { moment = 0; node = 0; item = Op (Transmit (record { id = 0x7ff; ext = false; kind = Data; bytes = [] })) }
      ∷ record { moment = 0; node = 0; item = Op (Transmit (record { id = 0x7ff; ext = false; kind = Data; bytes = [] })) }
      ∷ record { moment = 0; node = 0; item = Op (Transmit (record { id = 0x7ff; ext = false; kind = Data; bytes = [] })) }
      ∷ record { moment = 0; node = 0; item = Op (Transmit (record { id = 0x7ff; ext = false; kind = Data; bytes = [] })) }
      ∷ record { moment = 0; node = 0; item = Op (Transmit (record { id = 0x7ff; ext = false; kind = Data; bytes = [] })) }
      ∷ record { moment = 0; node = 0; item = Op (Transmit (record { id = 0x7ff; ext = false; kind = Data; bytes = [] })) }
      ∷ record { moment = 0; node = 0; item = Op (Transmit (record { id = 0x7ff; ext = false; kind = Data; bytes = [] })) }
      ∷ record { moment = 0; node = 0; item = Op (Transmit (record { id = 0x7ff; ext = false; kind = Data; bytes = [] })) }
      ∷ record { moment = 0; node = 0; item = Op (Transmit (record { id = 0x7ff; ext = false; kind = Data; bytes = [] })) }
      ∷ record { moment = 0; node = 0; item = Op (Transmit (record { id = 0x7ff; ext = false; kind = Data; bytes = [] })) }
      ∷ record { moment = 0; node = 0; item = Op (Transmit (record { id = 0x7ff; ext = false; kind = Data; bytes = [] })) }
      ∷ record { moment = 0; node = 0; item = Op (Transmit (record { id = 0x7ff; ext = false; kind = Data; bytes = [] })) }
      ∷ record { moment = 0; node = 0; item = Op (Transmit (record { id = 0x7ff; ext = false; kind = Data; bytes = [] })) }
      ∷ record { moment = 0; node = 0; item = Op (Transmit (record { id = 0x7ff; ext = false; kind = Data; bytes = [] })) }
      ∷ record { moment = 0; node = 0; item = Op (Transmit (record { id = 0x7ff; ext = false; kind = Data; bytes = [] })) }
      ∷ record { moment = 0; node = 0; item = Op (Transmit (record { id = 0x7ff; ext = false; kind = Data; bytes = [] })) }
      ∷ record { moment = 0; node = 0; item = Op (Transmit (record { id = 0x7ff; ext = false; kind = Data; bytes = [] })) }
      ∷ record { moment = 0; node = 0; item = Op (Transmit (record { id = 0x7ff; ext = false; kind = Data; bytes = [] })) }
      ∷ record { moment = 0; node = 0; item = Op (Transmit (record { id = 0x7ff; ext = false; kind = Data; bytes = [] })) }
      ∷ record { moment = 0; node = 0; item = Op (Transmit (record { id = 0x7ff; ext = false; kind = Data; bytes = [] })) }
      ∷ record { moment = 0; node = 0; item = Op (Transmit (record { id = 0x7ff; ext = false; kind = Data; bytes = [] })) }
      ∷ record { moment = 0; node = 0; item = Op (Transmit (record { id = 0x7ff; ext = false; kind = Data; bytes = [] })) }
      ∷ record { moment = 0; node = 0; item = Op (Transmit (record { id = 0x7ff; ext = false; kind = Data; bytes = [] })) }
      ∷ record { moment = 0; node = 0; item = Op (Transmit (record { id = 0x7ff; ext = false; kind = Data; bytes = [] })) }
      ∷ record { moment = 0; node = 0; item = Op (Transmit (record { id = 0x7ff; ext = false; kind = Data; bytes = [] })) }
      ∷ record { moment = 0; node = 0; item = Op (Transmit (record { id = 0x7ff; ext = false; kind = Data; bytes = [] })) }
      ∷ record { moment = 0; node = 0; item = Op (Transmit (record { id = 0x7ff; ext = false; kind = Data; bytes = [] })) }
      ∷ record { moment = 0; node = 0; item = Op (Transmit (record { id = 0x7ff; ext = false; kind = Data; bytes = [] })) }
      ∷ record { moment = 0; node = 0; item = Op (Transmit (record { id = 0x7ff; ext = false; kind = Data; bytes = [] })) }
      ∷ record { moment = 0; node = 0; item = Op (Transmit (record { id = 0x7ff; ext = false; kind = Data; bytes = [] })) }
      ∷ record { moment = 0; node = 0; item = Op (Transmit (record { id = 0x7ff; ext = false; kind = Data; bytes = [] })) }
      ∷ record { moment = 0; node = 0; item = Op (Transmit (record { id = 0x7ff; ext = false; kind = Data; bytes = [] })) }
      ∷ record { moment = 0; node = 0; item = Op (Transmit (record { id = 0x7ff; ext = false; kind = Data; bytes = [] })) }
      ∷ record { moment = 0; node = 0; item = Op (Transmit (record { id = 0x7ff; ext = false; kind = Data; bytes = [] })) }
      ∷ record { moment = 0; node = 0; item = Op (Transmit (record { id = 0x7ff; ext = false; kind = Data; bytes = [] })) }
      ∷ record { moment = 0; node = 0; item = Op (Transmit (record { id = 0x7ff; ext = false; kind = Data; bytes = [] })) }
      ∷ record { moment = 0; node = 0; item = Op (Transmit (record { id = 0x7ff; ext = false; kind = Data; bytes = [] })) }
      ∷ record { moment = 0; node = 0; item = Op (Transmit (record { id = 0x7ff; ext = false; kind = Data; bytes = [] })) }
      ∷ record { moment = 0; node = 0; item = Op (Transmit (record { id = 0x7ff; ext = false; kind = Data; bytes = [] })) }
      ∷ record { moment = 0; node = 0; item = Op (Transmit (record { id = 0x7ff; ext = false; kind = Data; bytes = [] })) }
      ∷ record { moment = 0; node = 0; item = Op (Transmit (record { id = 0x7ff; ext = false; kind = Data; bytes = [] })) }
      ∷ record { moment = 0; node = 0; item = Op (Transmit (record { id = 0x7ff; ext = false; kind = Data; bytes = [] })) }
      ∷ record { moment = 0; node = 0; item = Op (Transmit (record { id = 0x7ff; ext = false; kind = Data; bytes = [] })) }
      ∷ record { moment = 0; node = 0; item = Op (Transmit (record { id = 0x7ff; ext = false; kind = Data; bytes = [] })) }
      ∷ record { moment = 0; node = 0; item = Op (Transmit (record { id = 0x7ff; ext = false; kind = Data; bytes = [] })) }
      ∷ record { moment = 0; node = 0; item = Op (Transmit (record { id = 0x7ff; ext = false; kind = Data; bytes = [] })) }
      ∷ record { moment = 0; node = 0; item = Op (Transmit (record { id = 0x7ff; ext = false; kind = Data; bytes = [] })) }
      ∷ record { moment = 0; node = 0; item = Op (Transmit (record { id = 0x7ff; ext = false; kind = Data; bytes = [] })) }
      ∷ record { moment = 0; node = 0; item = Op (Transmit (record { id = 0x7ff; ext = false; kind = Data; bytes = [] })) }
      ∷ record { moment = 0; node = 0; item = Op (Transmit (record { id = 0x7ff; ext = false; kind = Data; bytes = [] })) }
      ∷ record { moment = 0; node = 0; item = Op (Transmit (record { id = 0x7ff; ext = false; kind = Data; bytes = [] })) }
      ∷ record { moment = 0; node = 0; item = Op (Transmit (record { id = 0x7ff; ext = false; kind = Data; bytes = [] })) }
      ∷ record { moment = 0; node = 0; item = Op (Transmit (record { id = 0x7ff; ext = false; kind = Data; bytes = [] })) }
      ∷ record { moment = 0; node = 0; item = Op (Transmit (record { id = 0x7ff; ext = false; kind = Data; bytes = [] })) }
      ∷ record { moment = 0; node = 0; item = Op (Transmit (record { id = 0x7ff; ext = false; kind = Data; bytes = [] })) }
      ∷ record { moment = 0; node = 0; item = Op (Transmit (record { id = 0x7ff; ext = false; kind = Data; bytes = [] })) }
      ∷ record { moment = 0; node = 0; item = Op (Transmit (record { id = 0x7ff; ext = false; kind = Data; bytes = [] })) }
      ∷ record { moment = 0; node = 0; item = Op (Transmit (record { id = 0x7ff; ext = false; kind = Data; bytes = [] })) }
      ∷ record { moment = 0; node = 0; item = Op (Transmit (record { id = 0x7ff; ext = false; kind = Data; bytes = [] })) }
      ∷ record { moment = 0; node = 0; item = Op (Transmit (record { id = 0x7ff; ext = false; kind = Data; bytes = [] })) }
      ∷ record { moment = 0; node = 0; item = Op (Transmit (record { id = 0x7ff; ext = false; kind = Data; bytes = [] })) }
      ∷ record { moment = 0; node = 0; item = Op (Transmit (record { id = 0x7ff; ext = false; kind = Data; bytes = [] })) }
      ∷ [];
}

pub full_row : scenario_log 1000000 play ≡ line (codes "0 0 req 0 7ff#")
    ++ line (codes "0 0 req 0 7ff#")
    ++ line (codes "0 0 req 0 7ff#")
    ++ line (codes "0 0 req 0 7ff#")
    ++ line (codes "0 0 req 0 7ff#")
    ++ line (codes "0 0 req 0 7ff#")
    ++ line (codes "0 0 req 0 7ff#")
    ++ line (codes "0 0 req 0 7ff#")
    ++ line (codes "0 0 req 0 7ff#")
    ++ line (codes "0 0 req 0 7ff#")
    ++ line (codes "0 0 req 0 7ff#")
    ++ line (codes "0 0 req 0 7ff#")
    ++ line (codes "0 0 req 0 7ff#")
    ++ line (codes "0 0 req 0 7ff#")
    ++ line (codes "0 0 req 0 7ff#")
    ++ line (codes "0 0 req 0 7ff#")
    ++ line (codes "0 0 req 0 7ff#")
    ++ line (codes "0 0 req 0 7ff#")
    ++ line (codes "0 0 req 0 7ff#")
    ++ line (codes "0 0 req 0 7ff#")
    ++ line (codes "0 0 req 0 7ff#")
    ++ line (codes "0 0 req 0 7ff#")
    ++ line (codes "0 0 req 0 7ff#")
    ++ line (codes "0 0 req 0 7ff#")
    ++ line (codes "0 0 req 0 7ff#")
    ++ line (codes "0 0 req 0 7ff#")
    ++ line (codes "0 0 req 0 7ff#")
    ++ line (codes "0 0 req 0 7ff#")
    ++ line (codes "0 0 req 0 7ff#")
    ++ line (codes "0 0 req 0 7ff#")
    ++ line (codes "0 0 req 0 7ff#")
    ++ line (codes "0 0 req 0 7ff#")
    ++ line (codes "0 0 req 0 7ff#")
    ++ line (codes "0 0 req 0 7ff#")
    ++ line (codes "0 0 req 0 7ff#")
    ++ line (codes "0 0 req 0 7ff#")
    ++ line (codes "0 0 req 0 7ff#")
    ++ line (codes "0 0 req 0 7ff#")
    ++ line (codes "0 0 req 0 7ff#")
    ++ line (codes "0 0 req 0 7ff#")
    ++ line (codes "0 0 req 0 7ff#")
    ++ line (codes "0 0 req 0 7ff#")
    ++ line (codes "0 0 req 0 7ff#")
    ++ line (codes "0 0 req 0 7ff#")
    ++ line (codes "0 0 req 0 7ff#")
    ++ line (codes "0 0 req 0 7ff#")
    ++ line (codes "0 0 req 0 7ff#")
    ++ line (codes "0 0 req 0 7ff#")
    ++ line (codes "0 0 req 0 7ff#")
    ++ line (codes "0 0 req 0 7ff#")
    ++ line (codes "0 0 req 0 7ff#")
    ++ line (codes "0 0 req 0 7ff#")
    ++ line (codes "0 0 req 0 7ff#")
    ++ line (codes "0 0 req 0 7ff#")
    ++ line (codes "0 0 req 0 7ff#")
    ++ line (codes "0 0 req 0 7ff#")
    ++ line (codes "0 0 req 0 7ff#")
    ++ line (codes "0 0 req 0 7ff#")
    ++ line (codes "0 0 req 0 7ff#")
    ++ line (codes "0 0 req 0 7ff#")
    ++ line (codes "0 0 req 0 7ff#")
    ++ line (codes "0 0 req 0 7ff#")
    ++ line (codes "0 0 req 0 7ff#")
    ++ line (codes "0 0 req 0 7ff#")
    ++ line (codes "0 0 req 0 7ff#")
    ++ line (codes "0 0 req 0 7ff#")
    ++ line (codes "0 0 req 0 7ff#")
    ++ line (codes "0 0 req 0 7ff#")
    ++ line (codes "0 0 req 0 7ff#")
    ++ line (codes "0 0 req 0 7ff#")
    ++ line (codes "0 0 req 0 7ff#")
    ++ line (codes "0 0 req 0 7ff#")
    ++ line (codes "0 0 req 0 7ff#")
    ++ line (codes "0 0 req 0 7ff#")
    ++ line (codes "0 0 req 0 7ff#")
    ++ line (codes "0 0 req 0 7ff#")
    ++ line (codes "0 0 req 0 7ff#")
    ++ line (codes "0 0 req 0 7ff#")
    ++ line (codes "0 0 req 0 7ff#")
    ++ line (codes "0 0 req 0 7ff#")
    ++ line (codes "0 0 req 0 7ff#")
    ++ line (codes "0 0 req 0 7ff#")
    ++ line (codes "0 0 req 0 7ff#")
    ++ line (codes "0 0 req 0 7ff#")
    ++ line (codes "0 0 req 0 7ff#")
    ++ line (codes "0 0 req 0 7ff#")
    ++ line (codes "0 0 req 0 7ff#")
    ++ line (codes "0 0 req 0 7ff#")
    ++ line (codes "0 0 req 0 7ff#")
    ++ line (codes "0 0 req 0 7ff#")
    ++ line (codes "0 0 req 0 7ff#")
    ++ line (codes "0 0 req 0 7ff#")
    ++ line (codes "0 0 req 0 7ff#")
    ++ line (codes "0 0 req 0 7ff#")
    ++ line (codes "0 0 req 0 7ff#")
    ++ line (codes "0 0 req 0 7ff#")
    ++ line (codes "0 0 req 0 7ff#")
    ++ line (codes "0 0 req 0 7ff#")
    ++ line (codes "0 0 req 0 7ff#")
    ++ line (codes "0 0 req 0 7ff#")
    ++ line (codes "0 0 req 0 7ff#")
    ++ line (codes "0 0 req 0 7ff#")
    ++ line (codes "0 0 req 0 7ff#")
    ++ line (codes "0 0 req 0 7ff#")
    ++ line (codes "0 0 req 0 7ff#")
    ++ line (codes "0 0 req 0 7ff#")
    ++ line (codes "0 0 req 0 7ff#")
    ++ line (codes "0 0 req 0 7ff#")
    ++ line (codes "0 0 req 0 7ff#")
    ++ line (codes "0 0 req 0 7ff#")
    ++ line (codes "0 0 req 0 7ff#")
    ++ line (codes "0 0 req 0 7ff#")
    ++ line (codes "0 0 req 0 7ff#")
    ++ line (codes "0 0 req 0 7ff#")
    ++ line (codes "0 0 req 0 7ff#")
    ++ line (codes "0 0 req 0 7ff#")
    ++ line (codes "0 0 req 0 7ff#")
    ++ line (codes "0 0 req 0 7ff#")
    ++ line (codes "0 0 req 0 7ff#")
    ++ line (codes "0 0 req 0 7ff#")
    ++ line (codes "0 0 req 0 7ff#")
    ++ line (codes "0 0 req 0 7ff#")
    ++ line (codes "0 0 req 0 7ff#")
    ++ line (codes "0 0 req 0 7ff#")
    ++ line (codes "0 0 req 0 7ff#")
    ++ line (codes "0 0 req 0 7ff#")
    ++ line (codes "0 0 req 0 7ff#")
    ++ line (codes "0 0 req 0 7ff#")
    ++ line (codes "0 0 req 0 7ff#")
    ++ line (codes "0 0 req 0 7ff#")
    ++ line (codes "0 0 req 0 7ff#")
    ++ line (codes "0 0 req 0 7ff#")
    ++ line (codes "0 0 req 0 7ff#")
    ++ line (codes "0 0 req 0 7ff#")
    ++ line (codes "0 0 req 0 7ff#")
    ++ line (codes "0 0 req 0 7ff#")
    ++ line (codes "0 0 req 0 7ff#")
    ++ line (codes "0 0 req 0 7ff#")
    ++ line (codes "0 0 req 0 7ff#")
    ++ line (codes "0 0 req 0 7ff#")
    ++ line (codes "0 0 req 0 7ff#")
    ++ line (codes "0 0 req 0 7ff#")
    ++ line (codes "0 0 req 0 7ff#")
    ++ line (codes "0 0 req 0 7ff#")
    ++ line (codes "0 0 req 0 7ff#")
    ++ line (codes "0 0 req 0 7ff#")
    ++ line (codes "0 0 req 0 7ff#")
    ++ line (codes "0 0 req 0 7ff#")
    ++ line (codes "0 0 req 0 7ff#")
    ++ line (codes "0 0 req 0 7ff#")
    ++ line (codes "0 0 req 0 7ff#")
    ++ line (codes "0 0 req 0 7ff#")
    ++ line (codes "0 0 req 0 7ff#")
    ++ line (codes "0 0 req 0 7ff#")
    ++ line (codes "0 0 req 0 7ff#")
    ++ line (codes "0 0 req 0 7ff#")
    ++ line (codes "0 0 req 0 7ff#")
    ++ line (codes "0 0 req 0 7ff#")
    ++ line (codes "0 0 req 0 7ff#")
    ++ line (codes "0 0 req 0 7ff#")
    ++ line (codes "0 0 req 0 7ff#")
    ++ line (codes "0 0 req 0 7ff#")
    ++ line (codes "0 0 req 0 7ff#")
    ++ line (codes "0 0 req 0 7ff#")
    ++ line (codes "0 0 req 0 7ff#")
    ++ line (codes "0 0 req 0 7ff#")
    ++ line (codes "0 0 req 0 7ff#")
    ++ line (codes "0 0 req 0 7ff#")
    ++ line (codes "0 0 req 0 7ff#")
    ++ line (codes "0 0 req 0 7ff#")
    ++ line (codes "0 0 req 0 7ff#")
    ++ line (codes "0 0 req 0 7ff#")
    ++ line (codes "0 0 req 0 7ff#")
    ++ line (codes "0 0 req 0 7ff#")
    ++ line (codes "0 0 req 0 7ff#")
    ++ line (codes "0 0 req 0 7ff#")
    ++ line (codes "0 0 req 0 7ff#")
    ++ line (codes "0 0 req 0 7ff#")
    ++ line (codes "0 0 req 0 7ff#")
    ++ line (codes "0 0 req 0 7ff#")
    ++ line (codes "0 0 req 0 7ff#")
    ++ line (codes "0 0 req 0 7ff#")
    ++ line (codes "0 0 req 0 7ff#")
    ++ line (codes "0 0 req 0 7ff#")
    ++ line (codes "0 0 req 0 7ff#")
    ++ line (codes "0 0 req 0 7ff#")
    ++ line (codes "0 0 req 0 7ff#")
    ++ line (codes "0 0 req 0 7ff#")
    ++ line (codes "0 0 req 0 7ff#")
    ++ line (codes "0 0 req 0 7ff#")
    ++ line (codes "0 0 req 0 7ff#")
    ++ line (codes "0 0 req 0 7ff#")
    ++ line (codes "0 0 req 0 7ff#")
    ++ line (codes "0 0 req 0 7ff#")
    ++ line (codes "0 0 req 0 7ff#")
    ++ line (codes "0 0 req 0 7ff#")
    ++ line (codes "0 0 req 0 7ff#")
    ++ line (codes "0 0 req 0 7ff#")
    ++ line (codes "0 0 req 0 7ff#")
    ++ line (codes "0 0 req 0 7ff#")
    ++ line (codes "0 0 req 0 7ff#")
    ++ line (codes "0 0 req 0 7ff#")
    ++ line (codes "0 0 req 0 7ff#")
    ++ line (codes "0 0 req 0 7ff#")
    ++ line (codes "0 0 req 0 7ff#")
    ++ line (codes "0 0 req 0 7ff#")
    ++ line (codes "0 0 req 0 7ff#")
    ++ line (codes "0 0 req 0 7ff#")
    ++ line (codes "0 0 req 0 7ff#")
    ++ line (codes "0 0 req 0 7ff#")
    ++ line (codes "0 0 req 0 7ff#")
    ++ line (codes "0 0 req 0 7ff#")
    ++ line (codes "0 0 req 0 7ff#")
    ++ line (codes "0 0 req 0 7ff#")
    ++ line (codes "0 0 req 0 7ff#")
    ++ line (codes "0 0 req 0 7ff#")
    ++ line (codes "0 0 req 0 7ff#")
    ++ line (codes "0 0 req 0 7ff#")
    ++ line (codes "0 0 req 0 7ff#")
    ++ line (codes "0 0 req 0 7ff#")
    ++ line (codes "0 0 req 0 7ff#")
    ++ line (codes "0 0 req 0 7ff#")
    ++ line (codes "0 0 req 0 7ff#")
    ++ line (codes "0 0 req 0 7ff#")
    ++ line (codes "0 0 req 0 7ff#")
    ++ line (codes "0 0 req 0 7ff#")
    ++ line (codes "0 0 req 0 7ff#")
    ++ line (codes "0 0 req 0 7ff#")
    ++ line (codes "0 0 req 0 7ff#")
    ++ line (codes "0 0 req 0 7ff#")
    ++ line (codes "0 0 req 0 7ff#")
    ++ line (codes "0 0 req 0 7ff#")
    ++ line (codes "0 0 req 0 7ff#")
    ++ line (codes "0 0 req 0 7ff#")
    ++ line (codes "0 0 req 0 7ff#")
    ++ line (codes "0 0 req 0 7ff#")
    ++ line (codes "0 0 req 0 7ff#")
    ++ line (codes "0 0 req 0 7ff#")
    ++ line (codes "0 0 req 0 7ff#")
    ++ line (codes "0 0 req 0 7ff#")
    ++ line (codes "0 0 req 0 7ff#")
    ++ line (codes "0 0 req 0 7ff#")
    ++ line (codes "0 0 req 0 7ff#")
    ++ line (codes "0 0 req 0 7ff#")
    ++ line (codes "0 0 req 0 7ff#")
    ++ line (codes "0 0 req 0 7ff#")
    ++ line (codes "0 0 req 0 7ff#")
    ++ line (codes "0 0 req 0 7ff#")
    ++ line (codes "0 0 req 0 7ff#")
    ++ line (codes "0 0 req 0 7ff#")
    ++ line (codes "0 0 req 0 7ff#")
    ++ line (codes "0 0 req 0 7ff#")
    ++ line (codes "0 0 req 0 7ff#")
    ++ line (codes "0 0 req 0 7ff#")
    ++ line (codes "0 0 req 0 7ff#")
    ++ line (codes "0 0 req 0 7ff#")
    ++ line (codes "0 0 full 0 7ff#")
    ++ line (codes "0 0 full 0 7ff#")
    ++ line (codes "0 0 start 0 7ff#")
    ++ line (codes "94000 0 done 0 7ff# to 1")
    ++ line (codes "100000 0 start 0 7ff#")
    ++ line (codes "end 0 4")
unfolding stuff stuff_open stuffed time_of duration beats winner course start finish recover submit submission_of take_inbox next_due next_event behind head line_text digits
full_row = refl
