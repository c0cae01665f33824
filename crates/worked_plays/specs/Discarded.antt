-- a loser is discarded
use Rattle.std.specs.Prelude.{◌≡◌, ℕ, false, List, [], ◌∷◌, ◌++◌, Some, codes, refl}
use Rattle.std.specs.Fmt.{digits}
use Rattle.frame_specs.specs.Frame.{Data}
use Rattle.frame_specs.specs.Wire.{stuff, stuff_open, stuffed, time_of, duration}
use Rattle.frame_specs.specs.Dominance.{beats}
use Rattle.operation_specs.specs.Operation.{Transmit, Configuration, Discard}
use Rattle.operation_specs.specs.Reading.{Op}
use Rattle.bus_specs.specs.Bus.{winner}
use Rattle.bus_specs.specs.Start.{course, start}
use Rattle.bus_specs.specs.Finish.{finish, recover}
use Rattle.bus_specs.specs.Submit.{submission_of, submit}
use Rattle.bus_specs.specs.Inbox.{take_inbox}
use Rattle.log_specs.specs.Line.{line_text}
use Rattle.bus_specs.specs.Due.{next_due}
use Rattle.run_specs.specs.Run.{behind, head}
use Rattle.play_specs.specs.Scenario.{Scenario, next_event, scenario_log}

abbrev line : List ℕ → List ℕ
line text = text ++ 10 ∷ []

abbrev play : Scenario
play = record {
  setup = record { number = 0; nominal = 2000; data_bit_time = Some 500; rate = 500000; fd_rate = Some 2000000; errors = [] };
  nodes = 0 ∷ 1 ∷ [];
  stop = 1000000;
  actions = record { moment = 0; node = 0; item = Op (Configuration Discard) }
      ∷ record { moment = 0; node = 0; item = Op (Transmit (record { id = 0x100; ext = false; kind = Data; bytes = [] })) }
      ∷ record { moment = 0; node = 0; item = Op (Transmit (record { id = 0x101; ext = false; kind = Data; bytes = [] })) }
      ∷ record { moment = 0; node = 1; item = Op (Transmit (record { id = 0xff; ext = false; kind = Data; bytes = [] })) }
      ∷ [];
}

pub discarded_whole : scenario_log 1000000 play ≡ line (codes "0 0 discard 0")
    ++ line (codes "0 0 req 0 100#")
    ++ line (codes "0 0 req 0 101#")
    ++ line (codes "0 0 req 1 0ff#")
    ++ line (codes "0 0 start 1 0ff#")
    ++ line (codes "0 0 lost 0 100# gone")
    ++ line (codes "2000 0 told 0 lost 00000100")
    ++ line (codes "94000 0 done 1 0ff# to 0")
    ++ line (codes "100000 0 start 0 101#")
    ++ line (codes "192000 0 done 0 101# to 1")
    ++ line (codes "end 0 6")
unfolding stuff stuff_open stuffed time_of duration beats winner course start finish recover submit submission_of take_inbox next_due next_event behind head line_text digits
discarded_whole = refl
