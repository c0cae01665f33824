-- a lone passive sender
use Rattle.std.specs.Prelude.{◌≡◌, ℕ, false, List, [], ◌∷◌, ◌++◌, Some, codes, refl}
use Rattle.std.specs.Fmt.{digits}
use Rattle.frame_specs.specs.Frame.{Data}
use Rattle.frame_specs.specs.Wire.{stuff, stuff_open, stuffed, time_of, duration}
use Rattle.frame_specs.specs.Dominance.{beats}
use Rattle.operation_specs.specs.Operation.{Transmit}
use Rattle.operation_specs.specs.Reading.{Op}
use Rattle.bus_specs.specs.Bus.{winner}
use Rattle.bus_specs.specs.Start.{course, start}
use Rattle.bus_specs.specs.Finish.{finish, recover}
use Rattle.bus_specs.specs.Submit.{submission_of, submit}
use Rattle.bus_specs.specs.Inbox.{take_inbox}
use Rattle.log_specs.specs.Line.{line_text}
use Rattle.bus_specs.specs.Due.{next_due}
use Rattle.run_specs.specs.Run.{behind, head}
use Rattle.play_specs.specs.Scenario.{Scenario, next_event, scenario_log}

abbrev line : List ℕ → List ℕ
line text = text ++ 10 ∷ []

abbrev play : Scenario
play = record {
  setup = record { number = 0; nominal = 2000; data_bit_time = Some 500; rate = 500000; fd_rate = Some 2000000; errors = [] };
  nodes = 0 ∷ [];
  stop = 4432000;
  actions = record { moment = 0; node = 0; item = Op (Transmit (record { id = 0x0; ext = false; kind = Data; bytes = [] })) }
      ∷ [];
}

pub lone_passive_whole : scenario_log 1000000 play ≡ line (codes "0 0 req 0 000#")
    ++ line (codes "0 0 start 0 000#")
    ++ line (codes "124000 0 fail 0 000# 5 0")
    ++ line (codes "130000 0 start 0 000#")
    ++ line (codes "254000 0 fail 0 000# 5 0")
    ++ line (codes "260000 0 start 0 000#")
    ++ line (codes "384000 0 fail 0 000# 5 0")
    ++ line (codes "390000 0 start 0 000#")
    ++ line (codes "514000 0 fail 0 000# 5 0")
    ++ line (codes "520000 0 start 0 000#")
    ++ line (codes "644000 0 fail 0 000# 5 0")
    ++ line (codes "650000 0 start 0 000#")
    ++ line (codes "774000 0 fail 0 000# 5 0")
    ++ line (codes "780000 0 start 0 000#")
    ++ line (codes "904000 0 fail 0 000# 5 0")
    ++ line (codes "910000 0 start 0 000#")
    ++ line (codes "1034000 0 fail 0 000# 5 0")
    ++ line (codes "1040000 0 start 0 000#")
    ++ line (codes "1164000 0 fail 0 000# 5 0")
    ++ line (codes "1170000 0 start 0 000#")
    ++ line (codes "1294000 0 fail 0 000# 5 0")
    ++ line (codes "1300000 0 start 0 000#")
    ++ line (codes "1424000 0 fail 0 000# 5 0")
    ++ line (codes "1430000 0 start 0 000#")
    ++ line (codes "1554000 0 fail 0 000# 5 0")
    ++ line (codes "1560000 0 start 0 000#")
    ++ line (codes "1684000 0 fail 0 000# 5 0")
    ++ line (codes "1690000 0 start 0 000#")
    ++ line (codes "1814000 0 fail 0 000# 5 0")
    ++ line (codes "1820000 0 start 0 000#")
    ++ line (codes "1944000 0 fail 0 000# 5 0")
    ++ line (codes "1950000 0 start 0 000#")
    ++ line (codes "2074000 0 fail 0 000# 5 0")
    ++ line (codes "2074000 0 state 0 passive")
    ++ line (codes "2096000 0 start 0 000#")
    ++ line (codes "2220000 0 fail 0 000# 5 0")
    ++ line (codes "2242000 0 start 0 000#")
    ++ line (codes "2366000 0 fail 0 000# 5 0")
    ++ line (codes "2388000 0 start 0 000#")
    ++ line (codes "2512000 0 fail 0 000# 5 0")
    ++ line (codes "2534000 0 start 0 000#")
    ++ line (codes "2658000 0 fail 0 000# 5 0")
    ++ line (codes "2680000 0 start 0 000#")
    ++ line (codes "2804000 0 fail 0 000# 5 0")
    ++ line (codes "2826000 0 start 0 000#")
    ++ line (codes "2950000 0 fail 0 000# 5 0")
    ++ line (codes "2972000 0 start 0 000#")
    ++ line (codes "3096000 0 fail 0 000# 5 0")
    ++ line (codes "3118000 0 start 0 000#")
    ++ line (codes "3242000 0 fail 0 000# 5 0")
    ++ line (codes "3264000 0 start 0 000#")
    ++ line (codes "3388000 0 fail 0 000# 5 0")
    ++ line (codes "3410000 0 start 0 000#")
    ++ line (codes "3534000 0 fail 0 000# 5 0")
    ++ line (codes "3556000 0 start 0 000#")
    ++ line (codes "3680000 0 fail 0 000# 5 0")
    ++ line (codes "3702000 0 start 0 000#")
    ++ line (codes "3826000 0 fail 0 000# 5 0")
    ++ line (codes "3848000 0 start 0 000#")
    ++ line (codes "3972000 0 fail 0 000# 5 0")
    ++ line (codes "3994000 0 start 0 000#")
    ++ line (codes "4118000 0 fail 0 000# 5 0")
    ++ line (codes "4140000 0 start 0 000#")
    ++ line (codes "4264000 0 fail 0 000# 5 0")
    ++ line (codes "4286000 0 start 0 000#")
    ++ line (codes "4410000 0 fail 0 000# 5 0")
    ++ line (codes "4432000 0 start 0 000#")
    ++ line (codes "end 0 66")
unfolding stuff stuff_open stuffed time_of duration beats winner course start finish recover submit submission_of take_inbox next_due next_event behind head line_text digits
lone_passive_whole = refl
