-- base format wins
use Rattle.std.specs.Prelude.{◌≡◌, ℕ, true, false, List, [], ◌∷◌, ◌++◌, Some, codes, refl}
use Rattle.std.specs.Fmt.{digits}
use Rattle.frame_specs.specs.Frame.{Data}
use Rattle.frame_specs.specs.Wire.{stuff, stuff_open, stuffed, time_of, duration}
use Rattle.frame_specs.specs.Dominance.{beats}
use Rattle.operation_specs.specs.Operation.{Transmit}
use Rattle.operation_specs.specs.Reading.{Op}
use Rattle.bus_specs.specs.Bus.{winner}
use Rattle.bus_specs.specs.Start.{course, start}
use Rattle.bus_specs.specs.Finish.{finish, recover}
use Rattle.bus_specs.specs.Submit.{submission_of, submit}
use Rattle.bus_specs.specs.Inbox.{take_inbox}
use Rattle.log_specs.specs.Line.{line_text}
use Rattle.bus_specs.specs.Due.{next_due}
use Rattle.run_specs.specs.Run.{behind, head}
use Rattle.play_specs.specs.Scenario.{Scenario, next_event, scenario_log}

abbrev line : List ℕ → List ℕ
line text = text ++ 10 ∷ []

abbrev play : Scenario
play = record {
  setup = record { number = 0; nominal = 2000; data_bit_time = Some 500; rate = 500000; fd_rate = Some 2000000; errors = [] };
  nodes = 0 ∷ 1 ∷ [];
  stop = 1000000;
  actions = record { moment = 0; node = 0; item = Op (Transmit (record { id = 0x4000000; ext = true; kind = Data; bytes = [] })) }
      ∷ record { moment = 0; node = 1; item = Op (Transmit (record { id = 0x100; ext = false; kind = Data; bytes = [] })) }
      ∷ [];
}

pub base_beats_extended : scenario_log 1000000 play ≡ line (codes "0 0 req 0 04000000#")
    ++ line (codes "0 0 req 1 100#")
    ++ line (codes "0 0 start 1 100#")
    ++ line (codes "0 0 lost 0 04000000# keep")
    ++ line (codes "96000 0 done 1 100# to 0")
    ++ line (codes "102000 0 start 0 04000000#")
    ++ line (codes "242000 0 done 0 04000000# to 1")
    ++ line (codes "end 0 5")
unfolding stuff stuff_open stuffed time_of duration beats winner course start finish recover submit submission_of take_inbox next_due next_event behind head line_text digits
base_beats_extended = refl
