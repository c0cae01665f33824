-- bus-off and recovery
use Rattle.std.specs.Prelude.{◌≡◌, ℕ, false, List, [], ◌∷◌, ◌++◌, Some, None, codes, refl}
use Rattle.std.specs.Fmt.{digits}
use Rattle.frame_specs.specs.Frame.{Data}
use Rattle.frame_specs.specs.Wire.{stuff, stuff_open, stuffed, time_of, duration}
use Rattle.frame_specs.specs.Dominance.{beats}
use Rattle.operation_specs.specs.Operation.{Transmit}
use Rattle.operation_specs.specs.Reading.{Op}
use Rattle.bus_specs.specs.Bus.{winner}
use Rattle.bus_specs.specs.Start.{course, start}
use Rattle.bus_specs.specs.Finish.{finish, recover}
use Rattle.bus_specs.specs.Submit.{submission_of, submit}
use Rattle.bus_specs.specs.Inbox.{take_inbox}
use Rattle.log_specs.specs.Line.{line_text}
use Rattle.bus_specs.specs.Due.{next_due}
use Rattle.run_specs.specs.Run.{behind, head}
use Rattle.play_specs.specs.Scenario.{Scenario, next_event, scenario_log}

abbrev line : List ℕ → List ℕ
line text = text ++ 10 ∷ []

abbrev play : Scenario
play = record {
  setup = record { number = 0; nominal = 2000; data_bit_time = Some 500; rate = 500000; fd_rate = Some 2000000; errors = record { first = 1; count = 32; kind = 1; by = None; bit = 10 } ∷ [] };
  nodes = 0 ∷ 1 ∷ 2 ∷ [];
  stop = 6000000;
  actions = record { moment = 0; node = 0; item = Op (Transmit (record { id = 0x0; ext = false; kind = Data; bytes = [] })) }
      ∷ record { moment = 3000000; node = 1; item = Op (Transmit (record { id = 0x0; ext = false; kind = Data; bytes = [] })) }
      ∷ [];
}

pub bus_off_and_back_whole : scenario_log 1000000 play ≡ line (codes "0 0 req 0 000#")
    ++ line (codes "0 0 start 0 000#")
    ++ line (codes "62000 0 fail 0 000# 1 0")
    ++ line (codes "68000 0 start 0 000#")
    ++ line (codes "130000 0 fail 0 000# 1 0")
    ++ line (codes "136000 0 start 0 000#")
    ++ line (codes "198000 0 fail 0 000# 1 0")
    ++ line (codes "204000 0 start 0 000#")
    ++ line (codes "266000 0 fail 0 000# 1 0")
    ++ line (codes "272000 0 start 0 000#")
    ++ line (codes "334000 0 fail 0 000# 1 0")
    ++ line (codes "340000 0 start 0 000#")
    ++ line (codes "402000 0 fail 0 000# 1 0")
    ++ line (codes "408000 0 start 0 000#")
    ++ line (codes "470000 0 fail 0 000# 1 0")
    ++ line (codes "476000 0 start 0 000#")
    ++ line (codes "538000 0 fail 0 000# 1 0")
    ++ line (codes "544000 0 start 0 000#")
    ++ line (codes "606000 0 fail 0 000# 1 0")
    ++ line (codes "612000 0 start 0 000#")
    ++ line (codes "674000 0 fail 0 000# 1 0")
    ++ line (codes "680000 0 start 0 000#")
    ++ line (codes "742000 0 fail 0 000# 1 0")
    ++ line (codes "748000 0 start 0 000#")
    ++ line (codes "810000 0 fail 0 000# 1 0")
    ++ line (codes "816000 0 start 0 000#")
    ++ line (codes "878000 0 fail 0 000# 1 0")
    ++ line (codes "884000 0 start 0 000#")
    ++ line (codes "946000 0 fail 0 000# 1 0")
    ++ line (codes "952000 0 start 0 000#")
    ++ line (codes "1014000 0 fail 0 000# 1 0")
    ++ line (codes "1020000 0 start 0 000#")
    ++ line (codes "1082000 0 fail 0 000# 1 0")
    ++ line (codes "1082000 0 state 0 passive")
    ++ line (codes "1104000 0 start 0 000#")
    ++ line (codes "1166000 0 fail 0 000# 1 0")
    ++ line (codes "1188000 0 start 0 000#")
    ++ line (codes "1250000 0 fail 0 000# 1 0")
    ++ line (codes "1272000 0 start 0 000#")
    ++ line (codes "1334000 0 fail 0 000# 1 0")
    ++ line (codes "1356000 0 start 0 000#")
    ++ line (codes "1418000 0 fail 0 000# 1 0")
    ++ line (codes "1440000 0 start 0 000#")
    ++ line (codes "1502000 0 fail 0 000# 1 0")
    ++ line (codes "1524000 0 start 0 000#")
    ++ line (codes "1586000 0 fail 0 000# 1 0")
    ++ line (codes "1608000 0 start 0 000#")
    ++ line (codes "1670000 0 fail 0 000# 1 0")
    ++ line (codes "1692000 0 start 0 000#")
    ++ line (codes "1754000 0 fail 0 000# 1 0")
    ++ line (codes "1776000 0 start 0 000#")
    ++ line (codes "1838000 0 fail 0 000# 1 0")
    ++ line (codes "1860000 0 start 0 000#")
    ++ line (codes "1922000 0 fail 0 000# 1 0")
    ++ line (codes "1944000 0 start 0 000#")
    ++ line (codes "2006000 0 fail 0 000# 1 0")
    ++ line (codes "2028000 0 start 0 000#")
    ++ line (codes "2090000 0 fail 0 000# 1 0")
    ++ line (codes "2112000 0 start 0 000#")
    ++ line (codes "2174000 0 fail 0 000# 1 0")
    ++ line (codes "2196000 0 start 0 000#")
    ++ line (codes "2258000 0 fail 0 000# 1 0")
    ++ line (codes "2280000 0 start 0 000#")
    ++ line (codes "2342000 0 fail 0 000# 1 0")
    ++ line (codes "2364000 0 start 0 000#")
    ++ line (codes "2426000 0 fail 0 000# 1 0")
    ++ line (codes "2426000 0 state 0 off")
    ++ line (codes "3000000 0 req 1 000#")
    ++ line (codes "3000000 0 start 1 000#")
    ++ line (codes "3100000 0 done 1 000# to 2")
    ++ line (codes "5350000 0 back 0")
    ++ line (codes "end 0 69")
unfolding stuff stuff_open stuffed time_of duration beats winner course start finish recover submit submission_of take_inbox next_due next_event behind head line_text digits
bus_off_and_back_whole = refl
