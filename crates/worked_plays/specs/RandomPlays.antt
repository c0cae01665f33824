-- random plays
use Rattle.std.specs.Prelude.{◌≡◌, ℕ, true, false, List, [], ◌∷◌, ◌++◌, Some, None, codes, refl}
use Rattle.std.specs.Fmt.{digits}
use Rattle.frame_specs.specs.Frame.{Data, Remote, Fd}
use Rattle.frame_specs.specs.Wire.{stuff, stuff_open, stuffed, time_of, duration}
use Rattle.frame_specs.specs.Dominance.{beats}
use Rattle.operation_specs.specs.Operation.{Transmit, FdTransmit, Configuration, Keep, Discard, Wakeup, Sleep, Rate, FdRate, Status, Active, Off, FormatError}
use Rattle.operation_specs.specs.Spelling.{spell}
use Rattle.operation_specs.specs.Reading.{Op, Bad}
use Rattle.bus_specs.specs.Bus.{winner}
use Rattle.bus_specs.specs.Start.{course, start}
use Rattle.bus_specs.specs.Finish.{finish, recover}
use Rattle.bus_specs.specs.Submit.{submission_of, submit}
use Rattle.bus_specs.specs.Inbox.{take_inbox}
use Rattle.log_specs.specs.Line.{line_text}
use Rattle.bus_specs.specs.Due.{next_due}
use Rattle.run_specs.specs.Run.{behind, head}
use Rattle.play_specs.specs.Scenario.{next_event, scenario_log}

abbrev line : List ℕ → List ℕ
line text = text ++ 10 ∷ []

pub run_0 : scenario_log 1000000 (record { setup = record { number = 0; rate = 500000; fd_rate = Some 2000000; nominal = 2000; data_bit_time = Some 500; errors = record { first = 2; count = 1; kind = 4; by = Some 0; bit = 1000 } ∷ record { first = 2; count = 1; kind = 3; by = Some 0; bit = 10 } ∷ [] }; nodes = 0 ∷ 1 ∷ 2 ∷ 3 ∷ []; stop = 300000; actions = record { moment = 0; node = 2; item = Op (Configuration (Rate 500000)) } ∷ record { moment = 2000; node = 0; item = Op (Transmit (record { id = 1; ext = false; kind = Remote; bytes = [] })) } ∷ [] })
    ≡ line (codes "0 0 rate 2 500000") ++ line (codes "2000 0 req 0 001#R") ++ line (codes "2000 0 start 0 001#R") ++ line (codes "96000 0 done 0 001#R to 1,2,3") ++ line (codes "end 0 4")
unfolding stuff stuff_open stuffed time_of duration beats winner course start finish recover submit submission_of take_inbox next_due next_event behind head line_text digits spell
run_0 = refl

pub run_1 : scenario_log 1000000 (record { setup = record { number = 0; rate = 500000; fd_rate = None; nominal = 2000; data_bit_time = None; errors = record { first = 5; count = 1; kind = 4; by = None; bit = 5 } ∷ record { first = 3; count = 1; kind = 1; by = None; bit = 40 } ∷ [] }; nodes = 0 ∷ []; stop = 300000; actions = record { moment = 0; node = 0; item = Op Sleep } ∷ record { moment = 2000; node = 0; item = Op (Transmit (record { id = 0; ext = true; kind = Data; bytes = 85 ∷ 255 ∷ 255 ∷ [] })) } ∷ record { moment = 95707; node = 0; item = Op (FdTransmit (record { id = 255; ext = false; kind = Fd false true; bytes = 0 ∷ 90 ∷ 0 ∷ 0 ∷ 90 ∷ 90 ∷ 90 ∷ 255 ∷ 90 ∷ 90 ∷ 90 ∷ 90 ∷ 90 ∷ 0 ∷ 90 ∷ 90 ∷ 90 ∷ 0 ∷ 0 ∷ 90 ∷ [] })) } ∷ [] })
    ≡ line (codes "0 0 sleep 0") ++ line (codes "2000 0 req 0 00000000#55ffff") ++ line (codes "95707 0 bad 0 1100000025000000ff0000000000011400005a00005a5a5aff5a5a5a5a5a005a5a5a00005a") ++ line (codes "97707 0 told 0 format 1100000025000000ff0000000000011400005a00005a5a5aff5a5a5a5a5a005a5a5a00005a") ++ line (codes "end 0 4")
unfolding stuff stuff_open stuffed time_of duration beats winner course start finish recover submit submission_of take_inbox next_due next_event behind head line_text digits spell
run_1 = refl

pub run_2 : scenario_log 1000000 (record { setup = record { number = 0; rate = 500000; fd_rate = None; nominal = 2000; data_bit_time = None; errors = [] }; nodes = 0 ∷ 1 ∷ 2 ∷ 3 ∷ []; stop = 300000; actions = record { moment = 0; node = 1; item = Op (FdTransmit (record { id = 256; ext = false; kind = Fd true true; bytes = [] })) } ∷ record { moment = 0; node = 0; item = Op (Transmit (record { id = 66846720; ext = true; kind = Data; bytes = 0 ∷ 255 ∷ 0 ∷ 85 ∷ 85 ∷ 0 ∷ [] })) } ∷ record { moment = 2000; node = 3; item = Op (Transmit (record { id = 2047; ext = false; kind = Data; bytes = 85 ∷ 0 ∷ 0 ∷ 0 ∷ 0 ∷ 255 ∷ [] })) } ∷ [] })
    ≡ line (codes "0 0 bad 1 1100000011000000000100000001010000") ++ line (codes "0 0 req 0 03fc0000#00ff00555500") ++ line (codes "0 0 start 0 03fc0000#00ff00555500") ++ line (codes "2000 0 told 1 format 1100000011000000000100000001010000") ++ line (codes "2000 0 req 3 7ff#5500000000ff") ++ line (codes "246000 0 done 0 03fc0000#00ff00555500 to 1,2,3") ++ line (codes "252000 0 start 3 7ff#5500000000ff") ++ line (codes "end 0 5")
unfolding stuff stuff_open stuffed time_of duration beats winner course start finish recover submit submission_of take_inbox next_due next_event behind head line_text digits spell
run_2 = refl

pub run_3 : scenario_log 1000000 (record { setup = record { number = 0; rate = 500000; fd_rate = Some 2000000; nominal = 2000; data_bit_time = Some 500; errors = record { first = 1; count = 2; kind = 1; by = Some 2; bit = 1000 } ∷ record { first = 4; count = 1; kind = 2; by = Some 1; bit = 10 } ∷ [] }; nodes = 0 ∷ 1 ∷ 2 ∷ 3 ∷ []; stop = 300000; actions = record { moment = 0; node = 2; item = Op Sleep } ∷ record { moment = 0; node = 2; item = Op (Transmit (record { id = 1; ext = false; kind = Data; bytes = 255 ∷ 85 ∷ [] })) } ∷ record { moment = 757136; node = 3; item = Op (FdTransmit (record { id = 256; ext = false; kind = Fd true true; bytes = [] })) } ∷ [] })
    ≡ line (codes "0 0 sleep 2") ++ line (codes "0 0 req 2 001#ff55") ++ line (codes "end 0 1")
unfolding stuff stuff_open stuffed time_of duration beats winner course start finish recover submit submission_of take_inbox next_due next_event behind head line_text digits spell
run_3 = refl

pub run_4 : scenario_log 1000000 (record { setup = record { number = 0; rate = 500000; fd_rate = Some 2000000; nominal = 2000; data_bit_time = Some 500; errors = record { first = 3; count = 33; kind = 1; by = None; bit = 0 } ∷ record { first = 2; count = 2; kind = 1; by = Some 1; bit = 1000 } ∷ [] }; nodes = 0 ∷ 1 ∷ 2 ∷ 3 ∷ []; stop = 1000000; actions = record { moment = 0; node = 1; item = Op (FdTransmit (record { id = 262144; ext = true; kind = Fd true false; bytes = 0 ∷ 90 ∷ 0 ∷ 0 ∷ 90 ∷ 0 ∷ 0 ∷ 0 ∷ 0 ∷ 90 ∷ 255 ∷ 255 ∷ 255 ∷ 0 ∷ 0 ∷ 255 ∷ 0 ∷ 255 ∷ 90 ∷ 0 ∷ [] })) } ∷ record { moment = 0; node = 3; item = Op (FdTransmit (record { id = 1; ext = false; kind = Fd false false; bytes = 255 ∷ 255 ∷ 90 ∷ 255 ∷ 255 ∷ 0 ∷ 0 ∷ 255 ∷ 0 ∷ 0 ∷ 255 ∷ 0 ∷ [] })) } ∷ record { moment = 0; node = 2; item = Op (Transmit (record { id = 256; ext = false; kind = Data; bytes = 85 ∷ 255 ∷ 85 ∷ 255 ∷ 255 ∷ 85 ∷ 0 ∷ [] })) } ∷ record { moment = 0; node = 1; item = Op (FdTransmit (record { id = 0; ext = false; kind = Fd false true; bytes = 90 ∷ 255 ∷ 255 ∷ 90 ∷ 255 ∷ 0 ∷ 255 ∷ 0 ∷ 0 ∷ 90 ∷ 255 ∷ 90 ∷ [] })) } ∷ record { moment = 0; node = 1; item = Op Sleep } ∷ record { moment = 2000; node = 1; item = Op (Transmit (record { id = 257; ext = false; kind = Remote; bytes = [] })) } ∷ record { moment = 773470; node = 3; item = Op (Transmit (record { id = 255; ext = false; kind = Remote; bytes = [] })) } ∷ [] })
    ≡ line (codes "0 0 req 1 00040000##1005a00005a000000005affffff0000ff00ff5a00") ++ line (codes "0 0 req 3 001##0ffff5affff0000ff0000ff00") ++ line (codes "0 0 req 2 100#55ff55ffff5500") ++ line (codes "0 0 req 1 000##25affff5aff00ff00005aff5a") ++ line (codes "0 0 sleep 1") ++ line (codes "0 0 start 3 001##0ffff5affff0000ff0000ff00") ++ line (codes "0 0 lost 2 100#55ff55ffff5500 keep") ++ line (codes "2000 0 req 1 101#R") ++ line (codes "344000 0 done 3 001##0ffff5affff0000ff0000ff00 to 0,2") ++ line (codes "350000 0 start 2 100#55ff55ffff5500") ++ line (codes "564000 0 done 2 100#55ff55ffff5500 to 0,3") ++ line (codes "773470 0 req 3 0ff#R") ++ line (codes "773470 0 start 3 0ff#R") ++ line (codes "815470 0 fail 3 0ff#R 1 3") ++ line (codes "821470 0 start 3 0ff#R") ++ line (codes "863470 0 fail 3 0ff#R 1 3") ++ line (codes "869470 0 start 3 0ff#R") ++ line (codes "911470 0 fail 3 0ff#R 1 3") ++ line (codes "917470 0 start 3 0ff#R") ++ line (codes "959470 0 fail 3 0ff#R 1 3") ++ line (codes "965470 0 start 3 0ff#R") ++ line (codes "end 0 16")
unfolding stuff stuff_open stuffed time_of duration beats winner course start finish recover submit submission_of take_inbox next_due next_event behind head line_text digits spell
run_4 = refl

pub run_5 : scenario_log 1000000 (record { setup = record { number = 0; rate = 500000; fd_rate = None; nominal = 2000; data_bit_time = None; errors = [] }; nodes = 0 ∷ 1 ∷ 2 ∷ 3 ∷ []; stop = 2600000; actions = record { moment = 0; node = 0; item = Op (Transmit (record { id = 0; ext = false; kind = Data; bytes = 85 ∷ [] })) } ∷ record { moment = 2000; node = 2; item = Op Sleep } ∷ record { moment = 440054; node = 2; item = Op (Configuration (Rate 500000)) } ∷ record { moment = 563564; node = 2; item = Op (Transmit (record { id = 0; ext = false; kind = Remote; bytes = [] })) } ∷ record { moment = 788343; node = 2; item = Op (Configuration Keep) } ∷ [] })
    ≡ line (codes "0 0 req 0 000#55") ++ line (codes "0 0 start 0 000#55") ++ line (codes "2000 0 sleep 2") ++ line (codes "110000 0 done 0 000#55 to 1,3") ++ line (codes "440054 0 rate 2 500000") ++ line (codes "563564 0 req 2 000#R") ++ line (codes "788343 0 keep 2") ++ line (codes "end 0 7")
unfolding stuff stuff_open stuffed time_of duration beats winner course start finish recover submit submission_of take_inbox next_due next_event behind head line_text digits spell
run_5 = refl

pub run_6 : scenario_log 1000000 (record { setup = record { number = 0; rate = 500000; fd_rate = Some 2000000; nominal = 2000; data_bit_time = Some 500; errors = [] }; nodes = 0 ∷ 1 ∷ 2 ∷ []; stop = 2600000; actions = record { moment = 0; node = 2; item = Op (Transmit (record { id = 67371008; ext = true; kind = Data; bytes = 255 ∷ [] })) } ∷ record { moment = 2000; node = 0; item = Op (FdTransmit (record { id = 2047; ext = false; kind = Fd false true; bytes = [] })) } ∷ record { moment = 2000; node = 0; item = Op (Transmit (record { id = 255; ext = false; kind = Data; bytes = 255 ∷ 255 ∷ 255 ∷ 255 ∷ 0 ∷ 85 ∷ [] })) } ∷ record { moment = 553774; node = 0; item = Op (Transmit (record { id = 2047; ext = false; kind = Data; bytes = [] })) } ∷ record { moment = 814087; node = 2; item = Op (FdTransmit (record { id = 66980669; ext = true; kind = Fd false false; bytes = [] })) } ∷ [] })
    ≡ line (codes "0 0 req 2 04040000#ff") ++ line (codes "0 0 start 2 04040000#ff") ++ line (codes "2000 0 req 0 7ff##2") ++ line (codes "2000 0 req 0 0ff#ffffffff0055") ++ line (codes "158000 0 done 2 04040000#ff to 0,1") ++ line (codes "164000 0 start 0 0ff#ffffffff0055") ++ line (codes "364000 0 done 0 0ff#ffffffff0055 to 1,2") ++ line (codes "370000 0 start 0 7ff##2") ++ line (codes "492000 0 done 0 7ff##2 to 1,2") ++ line (codes "553774 0 req 0 7ff#") ++ line (codes "553774 0 start 0 7ff#") ++ line (codes "647774 0 done 0 7ff# to 1,2") ++ line (codes "814087 0 req 2 03fe0b3d##0") ++ line (codes "814087 0 start 2 03fe0b3d##0") ++ line (codes "978087 0 done 2 03fe0b3d##0 to 0,1") ++ line (codes "end 0 14")
unfolding stuff stuff_open stuffed time_of duration beats winner course start finish recover submit submission_of take_inbox next_due next_event behind head line_text digits spell
run_6 = refl

pub run_7 : scenario_log 1000000 (record { setup = record { number = 0; rate = 500000; fd_rate = None; nominal = 2000; data_bit_time = None; errors = [] }; nodes = 0 ∷ []; stop = 1000000; actions = record { moment = 0; node = 0; item = Op (Transmit (record { id = 0; ext = false; kind = Data; bytes = [] })) } ∷ record { moment = 2000; node = 0; item = Op (FdTransmit (record { id = 1; ext = false; kind = Fd true true; bytes = 0 ∷ 255 ∷ 90 ∷ 255 ∷ 90 ∷ 90 ∷ 0 ∷ 0 ∷ 255 ∷ 0 ∷ 0 ∷ 90 ∷ 0 ∷ 0 ∷ 90 ∷ 90 ∷ 0 ∷ 255 ∷ 90 ∷ 90 ∷ [] })) } ∷ record { moment = 202405; node = 0; item = Op (Configuration Keep) } ∷ record { moment = 283808; node = 0; item = Op (FormatError (94 ∷ 246 ∷ 100 ∷ 58 ∷ 121 ∷ 35 ∷ 186 ∷ 163 ∷ 191 ∷ 3 ∷ 88 ∷ 73 ∷ 128 ∷ 198 ∷ 111 ∷ 147 ∷ 49 ∷ 134 ∷ 26 ∷ 114 ∷ 91 ∷ 163 ∷ 127 ∷ 188 ∷ 30 ∷ 62 ∷ 238 ∷ 235 ∷ 205 ∷ 160 ∷ 238 ∷ 109 ∷ 36 ∷ 146 ∷ 99 ∷ 10 ∷ 252 ∷ 139 ∷ 229 ∷ 135 ∷ 171 ∷ 240 ∷ 94 ∷ 64 ∷ 145 ∷ 11 ∷ 118 ∷ 158 ∷ 49 ∷ 225 ∷ 243 ∷ 251 ∷ 133 ∷ 27 ∷ 204 ∷ 200 ∷ 148 ∷ 217 ∷ 71 ∷ 92 ∷ 66 ∷ 209 ∷ 43 ∷ 249 ∷ 77 ∷ 61 ∷ 53 ∷ 10 ∷ 247 ∷ 102 ∷ [])) } ∷ record { moment = 619861; node = 0; item = Op (Transmit (record { id = 67125813; ext = true; kind = Remote; bytes = [] })) } ∷ record { moment = 836685; node = 0; item = Op (Transmit (record { id = 67380777; ext = true; kind = Data; bytes = 0 ∷ 85 ∷ 255 ∷ 0 ∷ [] })) } ∷ [] })
    ≡ line (codes "0 0 req 0 000#") ++ line (codes "0 0 start 0 000#") ++ line (codes "2000 0 bad 0 110000002500000001000000000101140000ff5aff5a5a0000ff00005a00005a5a00ff5a5a") ++ line (codes "4000 0 told 0 format 110000002500000001000000000101140000ff5aff5a5a0000ff00005a00005a5a00ff5a5a") ++ line (codes "124000 0 fail 0 000# 5 0") ++ line (codes "130000 0 start 0 000#") ++ line (codes "202405 0 keep 0") ++ line (codes "254000 0 fail 0 000# 5 0") ++ line (codes "260000 0 start 0 000#") ++ line (codes "283808 0 ferr 0 5ef6643a7923baa3bf03584980c66f9331861a725ba37fbc1e3eeeebcda0ee6d2492630afc8be587abf05e40910b769e31e1f3fb851bccc894d9475c42d12bf9") ++ line (codes "384000 0 fail 0 000# 5 0") ++ line (codes "390000 0 start 0 000#") ++ line (codes "514000 0 fail 0 000# 5 0") ++ line (codes "520000 0 start 0 000#") ++ line (codes "619861 0 req 0 04004235#R") ++ line (codes "644000 0 fail 0 000# 5 0") ++ line (codes "650000 0 start 0 000#") ++ line (codes "774000 0 fail 0 000# 5 0") ++ line (codes "780000 0 start 0 000#") ++ line (codes "836685 0 req 0 04042629#0055ff00") ++ line (codes "904000 0 fail 0 000# 5 0") ++ line (codes "910000 0 start 0 000#") ++ line (codes "end 0 22")
unfolding stuff stuff_open stuffed time_of duration beats winner course start finish recover submit submission_of take_inbox next_due next_event behind head line_text digits spell
run_7 = refl

pub run_8 : scenario_log 1000000 (record { setup = record { number = 0; rate = 500000; fd_rate = Some 2000000; nominal = 2000; data_bit_time = Some 500; errors = record { first = 1; count = 17; kind = 2; by = None; bit = 1000 } ∷ record { first = 2; count = 1; kind = 4; by = Some 1; bit = 0 } ∷ [] }; nodes = 0 ∷ 1 ∷ 2 ∷ 3 ∷ []; stop = 2600000; actions = record { moment = 0; node = 0; item = Op (Configuration Discard) } ∷ record { moment = 0; node = 1; item = Op (Transmit (record { id = 66846720; ext = true; kind = Data; bytes = 0 ∷ [] })) } ∷ record { moment = 0; node = 2; item = Op (Transmit (record { id = 67082489; ext = true; kind = Data; bytes = 0 ∷ 255 ∷ 255 ∷ 255 ∷ 85 ∷ [] })) } ∷ record { moment = 2000; node = 3; item = Op (Configuration Keep) } ∷ record { moment = 286330; node = 3; item = Op (Transmit (record { id = 0; ext = false; kind = Data; bytes = 255 ∷ 85 ∷ 0 ∷ 85 ∷ 255 ∷ [] })) } ∷ record { moment = 338828; node = 2; item = Op (Transmit (record { id = 0; ext = false; kind = Data; bytes = 85 ∷ 0 ∷ 255 ∷ 0 ∷ 255 ∷ 0 ∷ 0 ∷ 255 ∷ [] })) } ∷ record { moment = 472806; node = 2; item = Op (Transmit (record { id = 1; ext = false; kind = Data; bytes = 255 ∷ 255 ∷ [] })) } ∷ [] })
    ≡ line (codes "0 0 discard 0") ++ line (codes "0 0 req 1 03fc0000#00") ++ line (codes "0 0 req 2 03ff98f9#00ffffff55") ++ line (codes "0 0 start 1 03fc0000#00") ++ line (codes "0 0 lost 2 03ff98f9#00ffffff55 keep") ++ line (codes "2000 0 keep 3") ++ line (codes "204000 0 fail 1 03fc0000#00 2 1") ++ line (codes "210000 0 start 1 03fc0000#00") ++ line (codes "210000 0 lost 2 03ff98f9#00ffffff55 keep") ++ line (codes "286330 0 req 3 000#ff550055ff") ++ line (codes "338828 0 req 2 000#5500ff00ff0000ff") ++ line (codes "414000 0 fail 1 03fc0000#00 2 1") ++ line (codes "420000 0 start 2 000#5500ff00ff0000ff") ++ line (codes "420000 0 lost 1 03fc0000#00 keep") ++ line (codes "420000 0 lost 3 000#ff550055ff keep") ++ line (codes "472806 0 req 2 001#ffff") ++ line (codes "698000 0 fail 2 000#5500ff00ff0000ff 2 2") ++ line (codes "704000 0 start 2 000#5500ff00ff0000ff") ++ line (codes "704000 0 lost 1 03fc0000#00 keep") ++ line (codes "704000 0 lost 3 000#ff550055ff keep") ++ line (codes "982000 0 fail 2 000#5500ff00ff0000ff 2 2") ++ line (codes "988000 0 start 2 000#5500ff00ff0000ff") ++ line (codes "988000 0 lost 1 03fc0000#00 keep") ++ line (codes "988000 0 lost 3 000#ff550055ff keep") ++ line (codes "1266000 0 fail 2 000#5500ff00ff0000ff 2 2") ++ line (codes "1272000 0 start 2 000#5500ff00ff0000ff") ++ line (codes "1272000 0 lost 1 03fc0000#00 keep") ++ line (codes "1272000 0 lost 3 000#ff550055ff keep") ++ line (codes "1550000 0 fail 2 000#5500ff00ff0000ff 2 2") ++ line (codes "1556000 0 start 2 000#5500ff00ff0000ff") ++ line (codes "1556000 0 lost 1 03fc0000#00 keep") ++ line (codes "1556000 0 lost 3 000#ff550055ff keep") ++ line (codes "1834000 0 fail 2 000#5500ff00ff0000ff 2 2") ++ line (codes "1840000 0 start 2 000#5500ff00ff0000ff") ++ line (codes "1840000 0 lost 1 03fc0000#00 keep") ++ line (codes "1840000 0 lost 3 000#ff550055ff keep") ++ line (codes "2118000 0 fail 2 000#5500ff00ff0000ff 2 2") ++ line (codes "2124000 0 start 2 000#5500ff00ff0000ff") ++ line (codes "2124000 0 lost 1 03fc0000#00 keep") ++ line (codes "2124000 0 lost 3 000#ff550055ff keep") ++ line (codes "2402000 0 fail 2 000#5500ff00ff0000ff 2 2") ++ line (codes "2408000 0 start 2 000#5500ff00ff0000ff") ++ line (codes "2408000 0 lost 1 03fc0000#00 keep") ++ line (codes "2408000 0 lost 3 000#ff550055ff keep") ++ line (codes "end 0 24")
unfolding stuff stuff_open stuffed time_of duration beats winner course start finish recover submit submission_of take_inbox next_due next_event behind head line_text digits spell
run_8 = refl

pub run_9 : scenario_log 1000000 (record { setup = record { number = 0; rate = 500000; fd_rate = Some 2000000; nominal = 2000; data_bit_time = Some 500; errors = [] }; nodes = 0 ∷ 1 ∷ []; stop = 1000000; actions = record { moment = 0; node = 1; item = Op (FdTransmit (record { id = 256; ext = false; kind = Fd true false; bytes = 0 ∷ 90 ∷ 0 ∷ 90 ∷ 255 ∷ 90 ∷ 0 ∷ 0 ∷ 90 ∷ 90 ∷ 255 ∷ 0 ∷ [] })) } ∷ record { moment = 775036; node = 0; item = Op (Transmit (record { id = 1; ext = false; kind = Data; bytes = 0 ∷ 0 ∷ 0 ∷ 0 ∷ [] })) } ∷ [] })
    ≡ line (codes "0 0 req 1 100##1005a005aff5a00005a5aff00") ++ line (codes "0 0 start 1 100##1005a005aff5a00005a5aff00") ++ line (codes "126500 0 done 1 100##1005a005aff5a00005a5aff00 to 0") ++ line (codes "775036 0 req 0 001#00000000") ++ line (codes "775036 0 start 0 001#00000000") ++ line (codes "945036 0 done 0 001#00000000 to 1") ++ line (codes "end 0 6")
unfolding stuff stuff_open stuffed time_of duration beats winner course start finish recover submit submission_of take_inbox next_due next_event behind head line_text digits spell
run_9 = refl

pub run_10 : scenario_log 1000000 (record { setup = record { number = 0; rate = 500000; fd_rate = Some 2000000; nominal = 2000; data_bit_time = Some 500; errors = record { first = 1; count = 17; kind = 1; by = Some 0; bit = 0 } ∷ [] }; nodes = 0 ∷ 1 ∷ []; stop = 2600000; actions = record { moment = 2000; node = 0; item = Op (FdTransmit (record { id = 256; ext = false; kind = Fd false false; bytes = 0 ∷ [] })) } ∷ record { moment = 2000; node = 1; item = Op Wakeup } ∷ record { moment = 200057; node = 0; item = Op Sleep } ∷ record { moment = 455342; node = 0; item = Op (Transmit (record { id = 0; ext = false; kind = Data; bytes = 85 ∷ 85 ∷ 255 ∷ 255 ∷ 85 ∷ 85 ∷ 0 ∷ 255 ∷ [] })) } ∷ record { moment = 706121; node = 0; item = Op (Transmit (record { id = 67070748; ext = true; kind = Data; bytes = 85 ∷ 255 ∷ 85 ∷ 85 ∷ 0 ∷ 0 ∷ 85 ∷ 0 ∷ [] })) } ∷ [] })
    ≡ line (codes "2000 0 req 0 100##000") ++ line (codes "2000 0 wake 1") ++ line (codes "2000 0 start 0 100##000") ++ line (codes "4000 0 told 0 wake") ++ line (codes "44000 0 fail 0 100##000 1 0") ++ line (codes "50000 0 start 0 100##000") ++ line (codes "92000 0 fail 0 100##000 1 0") ++ line (codes "98000 0 start 0 100##000") ++ line (codes "140000 0 fail 0 100##000 1 0") ++ line (codes "146000 0 start 0 100##000") ++ line (codes "188000 0 fail 0 100##000 1 0") ++ line (codes "194000 0 start 0 100##000") ++ line (codes "200057 0 sleep 0") ++ line (codes "236000 0 fail 0 100##000 1 0") ++ line (codes "455342 0 req 0 000#5555ffff555500ff") ++ line (codes "706121 0 req 0 03ff6b1c#55ff555500005500") ++ line (codes "end 0 15")
unfolding stuff stuff_open stuffed time_of duration beats winner course start finish recover submit submission_of take_inbox next_due next_event behind head line_text digits spell
run_10 = refl

pub run_11 : scenario_log 1000000 (record { setup = record { number = 0; rate = 500000; fd_rate = Some 2000000; nominal = 2000; data_bit_time = Some 500; errors = record { first = 1; count = 17; kind = 2; by = None; bit = 10 } ∷ record { first = 2; count = 33; kind = 2; by = Some 0; bit = 0 } ∷ [] }; nodes = 0 ∷ 1 ∷ 2 ∷ []; stop = 2600000; actions = record { moment = 0; node = 1; item = Op (FormatError (46 ∷ 76 ∷ 210 ∷ 102 ∷ 130 ∷ 159 ∷ 95 ∷ 50 ∷ 240 ∷ 219 ∷ 28 ∷ 90 ∷ 84 ∷ 187 ∷ 68 ∷ 64 ∷ 74 ∷ 186 ∷ 77 ∷ 22 ∷ 97 ∷ 141 ∷ 132 ∷ 97 ∷ 135 ∷ 19 ∷ 132 ∷ 230 ∷ 34 ∷ 118 ∷ 102 ∷ 158 ∷ 87 ∷ 69 ∷ 90 ∷ 248 ∷ 226 ∷ 154 ∷ 230 ∷ 174 ∷ 73 ∷ 171 ∷ 228 ∷ 15 ∷ 252 ∷ 52 ∷ 47 ∷ 40 ∷ 78 ∷ 139 ∷ 104 ∷ 19 ∷ 210 ∷ 161 ∷ 110 ∷ 118 ∷ 86 ∷ 160 ∷ 162 ∷ 228 ∷ 71 ∷ 229 ∷ 89 ∷ 234 ∷ 246 ∷ 84 ∷ 20 ∷ 77 ∷ 164 ∷ 87 ∷ [])) } ∷ record { moment = 0; node = 2; item = Op Sleep } ∷ record { moment = 2000; node = 0; item = Op (Transmit (record { id = 67178396; ext = true; kind = Data; bytes = [] })) } ∷ record { moment = 20405; node = 0; item = Op (FdTransmit (record { id = 257; ext = false; kind = Fd false true; bytes = 90 ∷ [] })) } ∷ record { moment = 186099; node = 1; item = Op (Configuration (FdRate 9)) } ∷ [] })
    ≡ line (codes "0 0 ferr 1 2e4cd266829f5f32f0db1c5a54bb44404aba4d16618d8461871384e62276669e57455af8e29ae6ae49abe40ffc342f284e8b6813d2a16e7656a0a2e447e559ea") ++ line (codes "0 0 sleep 2") ++ line (codes "2000 0 req 0 04010f9c#") ++ line (codes "2000 0 start 0 04010f9c#") ++ line (codes "20405 0 req 0 101##25a") ++ line (codes "64000 0 fail 0 04010f9c# 2 0") ++ line (codes "70000 0 start 0 04010f9c#") ++ line (codes "132000 0 fail 0 04010f9c# 2 0") ++ line (codes "138000 0 start 0 04010f9c#") ++ line (codes "186099 0 bad 1 400000000d0000000209000000") ++ line (codes "188099 0 told 1 format 400000000d0000000209000000") ++ line (codes "200000 0 fail 0 04010f9c# 2 0") ++ line (codes "206000 0 start 0 04010f9c#") ++ line (codes "268000 0 fail 0 04010f9c# 2 0") ++ line (codes "274000 0 start 0 04010f9c#") ++ line (codes "336000 0 fail 0 04010f9c# 2 0") ++ line (codes "342000 0 start 0 04010f9c#") ++ line (codes "404000 0 fail 0 04010f9c# 2 0") ++ line (codes "410000 0 start 0 04010f9c#") ++ line (codes "472000 0 fail 0 04010f9c# 2 0") ++ line (codes "478000 0 start 0 04010f9c#") ++ line (codes "540000 0 fail 0 04010f9c# 2 0") ++ line (codes "546000 0 start 0 04010f9c#") ++ line (codes "608000 0 fail 0 04010f9c# 2 0") ++ line (codes "614000 0 start 0 04010f9c#") ++ line (codes "676000 0 fail 0 04010f9c# 2 0") ++ line (codes "682000 0 start 0 04010f9c#") ++ line (codes "744000 0 fail 0 04010f9c# 2 0") ++ line (codes "750000 0 start 0 04010f9c#") ++ line (codes "812000 0 fail 0 04010f9c# 2 0") ++ line (codes "818000 0 start 0 04010f9c#") ++ line (codes "880000 0 fail 0 04010f9c# 2 0") ++ line (codes "886000 0 start 0 04010f9c#") ++ line (codes "948000 0 fail 0 04010f9c# 2 0") ++ line (codes "954000 0 start 0 04010f9c#") ++ line (codes "1016000 0 fail 0 04010f9c# 2 0") ++ line (codes "1022000 0 start 0 04010f9c#") ++ line (codes "1084000 0 fail 0 04010f9c# 2 0") ++ line (codes "1084000 0 state 0 passive") ++ line (codes "1106000 0 start 0 04010f9c#") ++ line (codes "1168000 0 fail 0 04010f9c# 2 0") ++ line (codes "1190000 0 start 0 04010f9c#") ++ line (codes "1232000 0 fail 0 04010f9c# 2 0") ++ line (codes "1254000 0 start 0 04010f9c#") ++ line (codes "1296000 0 fail 0 04010f9c# 2 0") ++ line (codes "1318000 0 start 0 04010f9c#") ++ line (codes "1360000 0 fail 0 04010f9c# 2 0") ++ line (codes "1382000 0 start 0 04010f9c#") ++ line (codes "1424000 0 fail 0 04010f9c# 2 0") ++ line (codes "1446000 0 start 0 04010f9c#") ++ line (codes "1488000 0 fail 0 04010f9c# 2 0") ++ line (codes "1510000 0 start 0 04010f9c#") ++ line (codes "1552000 0 fail 0 04010f9c# 2 0") ++ line (codes "1574000 0 start 0 04010f9c#") ++ line (codes "1616000 0 fail 0 04010f9c# 2 0") ++ line (codes "1638000 0 start 0 04010f9c#") ++ line (codes "1680000 0 fail 0 04010f9c# 2 0") ++ line (codes "1702000 0 start 0 04010f9c#") ++ line (codes "1744000 0 fail 0 04010f9c# 2 0") ++ line (codes "1766000 0 start 0 04010f9c#") ++ line (codes "1808000 0 fail 0 04010f9c# 2 0") ++ line (codes "1830000 0 start 0 04010f9c#") ++ line (codes "1872000 0 fail 0 04010f9c# 2 0") ++ line (codes "1894000 0 start 0 04010f9c#") ++ line (codes "1936000 0 fail 0 04010f9c# 2 0") ++ line (codes "1958000 0 start 0 04010f9c#") ++ line (codes "2000000 0 fail 0 04010f9c# 2 0") ++ line (codes "2022000 0 start 0 04010f9c#") ++ line (codes "2064000 0 fail 0 04010f9c# 2 0") ++ line (codes "2086000 0 start 0 04010f9c#") ++ line (codes "2128000 0 fail 0 04010f9c# 2 0") ++ line (codes "2128000 0 state 0 off") ++ line (codes "end 0 69")
unfolding stuff stuff_open stuffed time_of duration beats winner course start finish recover submit submission_of take_inbox next_due next_event behind head line_text digits spell
run_11 = refl

pub run_12 : scenario_log 1000000 (record { setup = record { number = 0; rate = 500000; fd_rate = Some 2000000; nominal = 2000; data_bit_time = Some 500; errors = record { first = 3; count = 33; kind = 2; by = None; bit = 1000 } ∷ [] }; nodes = 0 ∷ 1 ∷ 2 ∷ []; stop = 300000; actions = record { moment = 0; node = 1; item = Op (FdTransmit (record { id = 257; ext = false; kind = Fd false true; bytes = 90 ∷ [] })) } ∷ record { moment = 0; node = 1; item = Op (FdTransmit (record { id = 466544; ext = true; kind = Fd true false; bytes = 0 ∷ 0 ∷ 90 ∷ 255 ∷ 90 ∷ 0 ∷ 255 ∷ 90 ∷ [] })) } ∷ record { moment = 0; node = 0; item = Op Wakeup } ∷ record { moment = 0; node = 0; item = Op (Status Off) } ∷ record { moment = 0; node = 2; item = Op Wakeup } ∷ [] })
    ≡ line (codes "0 0 req 1 101##25a") ++ line (codes "0 0 req 1 00071e70##100005aff5a00ff5a") ++ line (codes "0 0 wake 0") ++ line (codes "0 0 status 0 off") ++ line (codes "0 0 wake 2") ++ line (codes "0 0 start 1 00071e70##100005aff5a00ff5a") ++ line (codes "2000 0 told 0 wake") ++ line (codes "2000 0 told 1 wake") ++ line (codes "2000 0 told 2 wake") ++ line (codes "151500 0 done 1 00071e70##100005aff5a00ff5a to 0,2") ++ line (codes "157500 0 start 1 101##25a") ++ line (codes "293500 0 done 1 101##25a to 0,2") ++ line (codes "end 0 6")
unfolding stuff stuff_open stuffed time_of duration beats winner course start finish recover submit submission_of take_inbox next_due next_event behind head line_text digits spell
run_12 = refl

pub run_13 : scenario_log 1000000 (record { setup = record { number = 0; rate = 500000; fd_rate = None; nominal = 2000; data_bit_time = None; errors = [] }; nodes = 0 ∷ 1 ∷ 2 ∷ 3 ∷ []; stop = 2600000; actions = record { moment = 0; node = 0; item = Op (Transmit (record { id = 1; ext = false; kind = Remote; bytes = [] })) } ∷ record { moment = 0; node = 2; item = Op (Transmit (record { id = 0; ext = false; kind = Data; bytes = 255 ∷ 255 ∷ 85 ∷ [] })) } ∷ record { moment = 0; node = 3; item = Op (Configuration (FdRate 2000000)) } ∷ record { moment = 0; node = 1; item = Op (Transmit (record { id = 536610918; ext = true; kind = Data; bytes = [] })) } ∷ record { moment = 0; node = 3; item = Op Wakeup } ∷ record { moment = 473140; node = 0; item = Op (Transmit (record { id = 255; ext = false; kind = Data; bytes = 0 ∷ 255 ∷ [] })) } ∷ record { moment = 665313; node = 3; item = Op (FdTransmit (record { id = 256; ext = false; kind = Fd true false; bytes = 255 ∷ 0 ∷ 0 ∷ 0 ∷ 90 ∷ 90 ∷ 0 ∷ 90 ∷ [] })) } ∷ [] })
    ≡ line (codes "0 0 req 0 001#R") ++ line (codes "0 0 req 2 000#ffff55") ++ line (codes "0 0 fdrate 3 2000000") ++ line (codes "0 0 req 1 1ffc0866#") ++ line (codes "0 0 wake 3") ++ line (codes "0 0 start 2 000#ffff55") ++ line (codes "0 0 lost 0 001#R keep") ++ line (codes "0 0 lost 1 1ffc0866# keep") ++ line (codes "2000 0 told 0 wake") ++ line (codes "2000 0 told 1 wake") ++ line (codes "2000 0 told 2 wake") ++ line (codes "148000 0 done 2 000#ffff55 to 0,1,3") ++ line (codes "154000 0 start 0 001#R") ++ line (codes "154000 0 lost 1 1ffc0866# keep") ++ line (codes "248000 0 done 0 001#R to 1,2,3") ++ line (codes "254000 0 start 1 1ffc0866#") ++ line (codes "390000 0 done 1 1ffc0866# to 0,2,3") ++ line (codes "473140 0 req 0 0ff#00ff") ++ line (codes "473140 0 start 0 0ff#00ff") ++ line (codes "601140 0 done 0 0ff#00ff to 1,2,3") ++ line (codes "665313 0 bad 3 1100000019000000000100000001000800ff0000005a5a005a") ++ line (codes "667313 0 told 3 format 1100000019000000000100000001000800ff0000005a5a005a") ++ line (codes "end 0 13")
unfolding stuff stuff_open stuffed time_of duration beats winner course start finish recover submit submission_of take_inbox next_due next_event behind head line_text digits spell
run_13 = refl

pub run_14 : scenario_log 1000000 (record { setup = record { number = 0; rate = 500000; fd_rate = Some 2000000; nominal = 2000; data_bit_time = Some 500; errors = record { first = 4; count = 17; kind = 4; by = None; bit = 0 } ∷ record { first = 3; count = 2; kind = 2; by = Some 0; bit = 0 } ∷ [] }; nodes = 0 ∷ []; stop = 300000; actions = record { moment = 0; node = 0; item = Op (FdTransmit (record { id = 67108864; ext = true; kind = Fd true true; bytes = 0 ∷ [] })) } ∷ record { moment = 442749; node = 0; item = Op (Transmit (record { id = 2047; ext = false; kind = Data; bytes = 85 ∷ 255 ∷ 0 ∷ 0 ∷ 0 ∷ 85 ∷ [] })) } ∷ [] })
    ≡ line (codes "0 0 req 0 04000000##300") ++ line (codes "0 0 start 0 04000000##300") ++ line (codes "144500 0 fail 0 04000000##300 5 0") ++ line (codes "150500 0 start 0 04000000##300") ++ line (codes "295000 0 fail 0 04000000##300 5 0") ++ line (codes "end 0 5")
unfolding stuff stuff_open stuffed time_of duration beats winner course start finish recover submit submission_of take_inbox next_due next_event behind head line_text digits spell
run_14 = refl

pub run_15 : scenario_log 1000000 (record { setup = record { number = 0; rate = 500000; fd_rate = None; nominal = 2000; data_bit_time = None; errors = record { first = 5; count = 1; kind = 3; by = Some 0; bit = 5 } ∷ record { first = 1; count = 17; kind = 2; by = Some 0; bit = 10 } ∷ [] }; nodes = 0 ∷ []; stop = 2600000; actions = record { moment = 0; node = 0; item = Op (Status Off) } ∷ record { moment = 0; node = 0; item = Op (FdTransmit (record { id = 0; ext = true; kind = Fd false true; bytes = 255 ∷ 90 ∷ 255 ∷ 0 ∷ 255 ∷ 0 ∷ 90 ∷ 90 ∷ [] })) } ∷ record { moment = 0; node = 0; item = Op Wakeup } ∷ record { moment = 0; node = 0; item = Op (Transmit (record { id = 255; ext = false; kind = Remote; bytes = [] })) } ∷ record { moment = 548935; node = 0; item = Op (Transmit (record { id = 255; ext = false; kind = Data; bytes = [] })) } ∷ [] })
    ≡ line (codes "0 0 status 0 off") ++ line (codes "0 0 bad 0 1100000019000000000000000100010800ff5aff00ff005a5a") ++ line (codes "0 0 wake 0") ++ line (codes "0 0 req 0 0ff#R") ++ line (codes "0 0 start 0 0ff#R") ++ line (codes "2000 0 told 0 format 1100000019000000000000000100010800ff5aff00ff005a5a") ++ line (codes "62000 0 fail 0 0ff#R 2 0") ++ line (codes "68000 0 start 0 0ff#R") ++ line (codes "130000 0 fail 0 0ff#R 2 0") ++ line (codes "136000 0 start 0 0ff#R") ++ line (codes "198000 0 fail 0 0ff#R 2 0") ++ line (codes "204000 0 start 0 0ff#R") ++ line (codes "266000 0 fail 0 0ff#R 2 0") ++ line (codes "272000 0 start 0 0ff#R") ++ line (codes "324000 0 fail 0 0ff#R 3 0") ++ line (codes "330000 0 start 0 0ff#R") ++ line (codes "392000 0 fail 0 0ff#R 2 0") ++ line (codes "398000 0 start 0 0ff#R") ++ line (codes "460000 0 fail 0 0ff#R 2 0") ++ line (codes "466000 0 start 0 0ff#R") ++ line (codes "528000 0 fail 0 0ff#R 2 0") ++ line (codes "534000 0 start 0 0ff#R") ++ line (codes "548935 0 req 0 0ff#") ++ line (codes "596000 0 fail 0 0ff#R 2 0") ++ line (codes "602000 0 start 0 0ff#") ++ line (codes "664000 0 fail 0 0ff# 2 0") ++ line (codes "670000 0 start 0 0ff#") ++ line (codes "732000 0 fail 0 0ff# 2 0") ++ line (codes "738000 0 start 0 0ff#") ++ line (codes "800000 0 fail 0 0ff# 2 0") ++ line (codes "806000 0 start 0 0ff#") ++ line (codes "868000 0 fail 0 0ff# 2 0") ++ line (codes "874000 0 start 0 0ff#") ++ line (codes "936000 0 fail 0 0ff# 2 0") ++ line (codes "942000 0 start 0 0ff#") ++ line (codes "1004000 0 fail 0 0ff# 2 0") ++ line (codes "1010000 0 start 0 0ff#") ++ line (codes "1072000 0 fail 0 0ff# 2 0") ++ line (codes "1072000 0 state 0 passive") ++ line (codes "1094000 0 start 0 0ff#") ++ line (codes "1156000 0 fail 0 0ff# 2 0") ++ line (codes "1178000 0 start 0 0ff#") ++ line (codes "1296000 0 fail 0 0ff# 5 0") ++ line (codes "1318000 0 start 0 0ff#") ++ line (codes "1436000 0 fail 0 0ff# 5 0") ++ line (codes "1458000 0 start 0 0ff#") ++ line (codes "1576000 0 fail 0 0ff# 5 0") ++ line (codes "1598000 0 start 0 0ff#") ++ line (codes "1716000 0 fail 0 0ff# 5 0") ++ line (codes "1738000 0 start 0 0ff#") ++ line (codes "1856000 0 fail 0 0ff# 5 0") ++ line (codes "1878000 0 start 0 0ff#") ++ line (codes "1996000 0 fail 0 0ff# 5 0") ++ line (codes "2018000 0 start 0 0ff#") ++ line (codes "2136000 0 fail 0 0ff# 5 0") ++ line (codes "2158000 0 start 0 0ff#") ++ line (codes "2276000 0 fail 0 0ff# 5 0") ++ line (codes "2298000 0 start 0 0ff#") ++ line (codes "2416000 0 fail 0 0ff# 5 0") ++ line (codes "2438000 0 start 0 0ff#") ++ line (codes "2556000 0 fail 0 0ff# 5 0") ++ line (codes "2578000 0 start 0 0ff#") ++ line (codes "end 0 58")
unfolding stuff stuff_open stuffed time_of duration beats winner course start finish recover submit submission_of take_inbox next_due next_event behind head line_text digits spell
run_15 = refl

pub run_16 : scenario_log 1000000 (record { setup = record { number = 0; rate = 500000; fd_rate = Some 2000000; nominal = 2000; data_bit_time = Some 500; errors = record { first = 4; count = 2; kind = 1; by = Some 0; bit = 40 } ∷ [] }; nodes = 0 ∷ 1 ∷ 2 ∷ []; stop = 2600000; actions = record { moment = 0; node = 2; item = Op Wakeup } ∷ record { moment = 0; node = 0; item = Op (Transmit (record { id = 255; ext = false; kind = Data; bytes = 255 ∷ 255 ∷ 85 ∷ 0 ∷ 255 ∷ 255 ∷ [] })) } ∷ record { moment = 2000; node = 1; item = Op (Transmit (record { id = 67124804; ext = true; kind = Data; bytes = 0 ∷ 0 ∷ [] })) } ∷ record { moment = 2000; node = 1; item = Op (Transmit (record { id = 256; ext = false; kind = Data; bytes = 85 ∷ 255 ∷ 0 ∷ 0 ∷ 85 ∷ [] })) } ∷ record { moment = 787441; node = 2; item = Op (Transmit (record { id = 67371008; ext = true; kind = Data; bytes = 255 ∷ [] })) } ∷ record { moment = 830591; node = 1; item = Op (Transmit (record { id = 1; ext = false; kind = Data; bytes = 0 ∷ 85 ∷ 85 ∷ 255 ∷ 0 ∷ 85 ∷ 85 ∷ [] })) } ∷ [] })
    ≡ line (codes "0 0 wake 2") ++ line (codes "0 0 req 0 0ff#ffff5500ffff") ++ line (codes "0 0 start 0 0ff#ffff5500ffff") ++ line (codes "2000 0 told 0 wake") ++ line (codes "2000 0 told 1 wake") ++ line (codes "2000 0 req 1 04003e44#0000") ++ line (codes "2000 0 req 1 100#55ff000055") ++ line (codes "200000 0 done 0 0ff#ffff5500ffff to 1,2") ++ line (codes "206000 0 start 1 100#55ff000055") ++ line (codes "388000 0 done 1 100#55ff000055 to 0,2") ++ line (codes "394000 0 start 1 04003e44#0000") ++ line (codes "568000 0 done 1 04003e44#0000 to 0,2") ++ line (codes "787441 0 req 2 04040000#ff") ++ line (codes "787441 0 start 2 04040000#ff") ++ line (codes "830591 0 req 1 001#005555ff005555") ++ line (codes "909441 0 fail 2 04040000#ff 1 0") ++ line (codes "915441 0 start 1 001#005555ff005555") ++ line (codes "915441 0 lost 2 04040000#ff keep") ++ line (codes "1037441 0 fail 1 001#005555ff005555 1 0") ++ line (codes "1043441 0 start 1 001#005555ff005555") ++ line (codes "1043441 0 lost 2 04040000#ff keep") ++ line (codes "1253441 0 done 1 001#005555ff005555 to 0,2") ++ line (codes "1259441 0 start 2 04040000#ff") ++ line (codes "1417441 0 done 2 04040000#ff to 0,1") ++ line (codes "end 0 18")
unfolding stuff stuff_open stuffed time_of duration beats winner course start finish recover submit submission_of take_inbox next_due next_event behind head line_text digits spell
run_16 = refl

pub run_17 : scenario_log 1000000 (record { setup = record { number = 0; rate = 500000; fd_rate = None; nominal = 2000; data_bit_time = None; errors = record { first = 3; count = 2; kind = 3; by = None; bit = 40 } ∷ [] }; nodes = 0 ∷ 1 ∷ 2 ∷ 3 ∷ []; stop = 2600000; actions = record { moment = 0; node = 2; item = Op (Transmit (record { id = 536758238; ext = true; kind = Data; bytes = 85 ∷ 255 ∷ 85 ∷ 255 ∷ 85 ∷ 255 ∷ 255 ∷ 85 ∷ [] })) } ∷ record { moment = 0; node = 1; item = Op (FdTransmit (record { id = 338884; ext = true; kind = Fd false false; bytes = 255 ∷ 255 ∷ 0 ∷ 0 ∷ 90 ∷ 255 ∷ 255 ∷ 0 ∷ 90 ∷ 90 ∷ 90 ∷ 0 ∷ [] })) } ∷ record { moment = 2000; node = 2; item = Op (Transmit (record { id = 0; ext = false; kind = Data; bytes = 255 ∷ 255 ∷ [] })) } ∷ record { moment = 538141; node = 1; item = Op (Transmit (record { id = 0; ext = false; kind = Data; bytes = 85 ∷ 255 ∷ [] })) } ∷ record { moment = 766445; node = 0; item = Op (Transmit (record { id = 67108864; ext = true; kind = Remote; bytes = [] })) } ∷ [] })
    ≡ line (codes "0 0 req 2 1ffe47de#55ff55ff55ffff55") ++ line (codes "0 0 bad 1 110000001d000000c42b05000100000c00ffff00005affff005a5a5a00") ++ line (codes "0 0 start 2 1ffe47de#55ff55ff55ffff55") ++ line (codes "2000 0 told 1 format 110000001d000000c42b05000100000c00ffff00005affff005a5a5a00") ++ line (codes "2000 0 req 2 000#ffff") ++ line (codes "272000 0 done 2 1ffe47de#55ff55ff55ffff55 to 0,1,3") ++ line (codes "278000 0 start 2 000#ffff") ++ line (codes "410000 0 done 2 000#ffff to 0,1,3") ++ line (codes "538141 0 req 1 000#55ff") ++ line (codes "538141 0 start 1 000#55ff") ++ line (codes "660141 0 fail 1 000#55ff 3 1") ++ line (codes "666141 0 start 1 000#55ff") ++ line (codes "766445 0 req 0 04000000#R") ++ line (codes "788141 0 fail 1 000#55ff 3 1") ++ line (codes "794141 0 start 1 000#55ff") ++ line (codes "794141 0 lost 0 04000000#R keep") ++ line (codes "922141 0 done 1 000#55ff to 0,2,3") ++ line (codes "928141 0 start 0 04000000#R") ++ line (codes "1066141 0 done 0 04000000#R to 1,2,3") ++ line (codes "end 0 16")
unfolding stuff stuff_open stuffed time_of duration beats winner course start finish recover submit submission_of take_inbox next_due next_event behind head line_text digits spell
run_17 = refl

pub run_18 : scenario_log 1000000 (record { setup = record { number = 0; rate = 500000; fd_rate = Some 2000000; nominal = 2000; data_bit_time = Some 500; errors = record { first = 5; count = 17; kind = 4; by = Some 3; bit = 5 } ∷ [] }; nodes = 0 ∷ 1 ∷ 2 ∷ 3 ∷ []; stop = 1000000; actions = record { moment = 0; node = 1; item = Op (Configuration Discard) } ∷ record { moment = 0; node = 0; item = Op (FdTransmit (record { id = 66846720; ext = true; kind = Fd false true; bytes = 90 ∷ 255 ∷ 0 ∷ 90 ∷ 0 ∷ 255 ∷ 90 ∷ 255 ∷ 255 ∷ 90 ∷ 255 ∷ 90 ∷ [] })) } ∷ record { moment = 0; node = 2; item = Op (Configuration (Rate 500000)) } ∷ record { moment = 2000; node = 1; item = Op (Transmit (record { id = 2047; ext = false; kind = Remote; bytes = [] })) } ∷ record { moment = 219299; node = 2; item = Bad (104 ∷ []) } ∷ [] })
    ≡ line (codes "0 0 discard 1") ++ line (codes "0 0 req 0 03fc0000##25aff005a00ff5affff5aff5a") ++ line (codes "0 0 rate 2 500000") ++ line (codes "0 0 start 0 03fc0000##25aff005a00ff5affff5aff5a") ++ line (codes "2000 0 req 1 7ff#R") ++ line (codes "219299 0 bad 2 68") ++ line (codes "221299 0 told 2 format 68") ++ line (codes "376000 0 done 0 03fc0000##25aff005a00ff5affff5aff5a to 1,2,3") ++ line (codes "382000 0 start 1 7ff#R") ++ line (codes "476000 0 done 1 7ff#R to 0,2,3") ++ line (codes "end 0 8")
unfolding stuff stuff_open stuffed time_of duration beats winner course start finish recover submit submission_of take_inbox next_due next_event behind head line_text digits spell
run_18 = refl

pub run_19 : scenario_log 1000000 (record { setup = record { number = 0; rate = 500000; fd_rate = Some 2000000; nominal = 2000; data_bit_time = Some 500; errors = [] }; nodes = 0 ∷ []; stop = 2600000; actions = record { moment = 0; node = 0; item = Bad (53 ∷ 179 ∷ 209 ∷ 24 ∷ 94 ∷ 227 ∷ 147 ∷ 241 ∷ []) } ∷ record { moment = 0; node = 0; item = Op (Transmit (record { id = 257; ext = false; kind = Data; bytes = 255 ∷ 255 ∷ 0 ∷ 255 ∷ 85 ∷ 0 ∷ [] })) } ∷ [] })
    ≡ line (codes "0 0 bad 0 35b3d1185ee393f1") ++ line (codes "0 0 req 0 101#ffff00ff5500") ++ line (codes "0 0 start 0 101#ffff00ff5500") ++ line (codes "2000 0 told 0 format 35b3d1185ee393f1") ++ line (codes "224000 0 fail 0 101#ffff00ff5500 5 0") ++ line (codes "230000 0 start 0 101#ffff00ff5500") ++ line (codes "454000 0 fail 0 101#ffff00ff5500 5 0") ++ line (codes "460000 0 start 0 101#ffff00ff5500") ++ line (codes "684000 0 fail 0 101#ffff00ff5500 5 0") ++ line (codes "690000 0 start 0 101#ffff00ff5500") ++ line (codes "914000 0 fail 0 101#ffff00ff5500 5 0") ++ line (codes "920000 0 start 0 101#ffff00ff5500") ++ line (codes "1144000 0 fail 0 101#ffff00ff5500 5 0") ++ line (codes "1150000 0 start 0 101#ffff00ff5500") ++ line (codes "1374000 0 fail 0 101#ffff00ff5500 5 0") ++ line (codes "1380000 0 start 0 101#ffff00ff5500") ++ line (codes "1604000 0 fail 0 101#ffff00ff5500 5 0") ++ line (codes "1610000 0 start 0 101#ffff00ff5500") ++ line (codes "1834000 0 fail 0 101#ffff00ff5500 5 0") ++ line (codes "1840000 0 start 0 101#ffff00ff5500") ++ line (codes "2064000 0 fail 0 101#ffff00ff5500 5 0") ++ line (codes "2070000 0 start 0 101#ffff00ff5500") ++ line (codes "2294000 0 fail 0 101#ffff00ff5500 5 0") ++ line (codes "2300000 0 start 0 101#ffff00ff5500") ++ line (codes "2524000 0 fail 0 101#ffff00ff5500 5 0") ++ line (codes "2530000 0 start 0 101#ffff00ff5500") ++ line (codes "end 0 25")
unfolding stuff stuff_open stuffed time_of duration beats winner course start finish recover submit submission_of take_inbox next_due next_event behind head line_text digits spell
run_19 = refl

pub run_20 : scenario_log 1000000 (record { setup = record { number = 0; rate = 500000; fd_rate = Some 2000000; nominal = 2000; data_bit_time = Some 500; errors = record { first = 1; count = 2; kind = 2; by = None; bit = 10 } ∷ record { first = 5; count = 1; kind = 1; by = None; bit = 5 } ∷ [] }; nodes = 0 ∷ []; stop = 2600000; actions = record { moment = 0; node = 0; item = Op Wakeup } ∷ record { moment = 0; node = 0; item = Op Sleep } ∷ record { moment = 0; node = 0; item = Op (Configuration Discard) } ∷ record { moment = 0; node = 0; item = Bad (106 ∷ 137 ∷ 127 ∷ 147 ∷ 40 ∷ 169 ∷ 51 ∷ 95 ∷ []) } ∷ record { moment = 2000; node = 0; item = Op (FdTransmit (record { id = 1; ext = false; kind = Fd true true; bytes = [] })) } ∷ record { moment = 2000; node = 0; item = Op Sleep } ∷ record { moment = 116373; node = 0; item = Op Wakeup } ∷ record { moment = 782988; node = 0; item = Op (Transmit (record { id = 2047; ext = false; kind = Data; bytes = 85 ∷ 255 ∷ 0 ∷ 85 ∷ [] })) } ∷ [] })
    ≡ line (codes "0 0 wake 0") ++ line (codes "0 0 sleep 0") ++ line (codes "0 0 discard 0") ++ line (codes "0 0 bad 0 6a897f9328a9335f") ++ line (codes "2000 0 told 0 format 6a897f9328a9335f") ++ line (codes "2000 0 req 0 001##3") ++ line (codes "2000 0 sleep 0") ++ line (codes "116373 0 wake 0") ++ line (codes "116373 0 start 0 001##3") ++ line (codes "178373 0 fail 0 001##3 2 0") ++ line (codes "184373 0 start 0 001##3") ++ line (codes "246373 0 fail 0 001##3 2 0") ++ line (codes "252373 0 start 0 001##3") ++ line (codes "350373 0 fail 0 001##3 5 0") ++ line (codes "356373 0 start 0 001##3") ++ line (codes "454373 0 fail 0 001##3 5 0") ++ line (codes "460373 0 start 0 001##3") ++ line (codes "512373 0 fail 0 001##3 1 0") ++ line (codes "518373 0 start 0 001##3") ++ line (codes "616373 0 fail 0 001##3 5 0") ++ line (codes "622373 0 start 0 001##3") ++ line (codes "720373 0 fail 0 001##3 5 0") ++ line (codes "726373 0 start 0 001##3") ++ line (codes "782988 0 req 0 7ff#55ff0055") ++ line (codes "824373 0 fail 0 001##3 5 0") ++ line (codes "830373 0 start 0 001##3") ++ line (codes "928373 0 fail 0 001##3 5 0") ++ line (codes "934373 0 start 0 001##3") ++ line (codes "1032373 0 fail 0 001##3 5 0") ++ line (codes "1038373 0 start 0 001##3") ++ line (codes "1136373 0 fail 0 001##3 5 0") ++ line (codes "1142373 0 start 0 001##3") ++ line (codes "1240373 0 fail 0 001##3 5 0") ++ line (codes "1246373 0 start 0 001##3") ++ line (codes "1344373 0 fail 0 001##3 5 0") ++ line (codes "1350373 0 start 0 001##3") ++ line (codes "1448373 0 fail 0 001##3 5 0") ++ line (codes "1454373 0 start 0 001##3") ++ line (codes "1552373 0 fail 0 001##3 5 0") ++ line (codes "1558373 0 start 0 001##3") ++ line (codes "1656373 0 fail 0 001##3 5 0") ++ line (codes "1656373 0 state 0 passive") ++ line (codes "1678373 0 start 0 001##3") ++ line (codes "1776373 0 fail 0 001##3 5 0") ++ line (codes "1798373 0 start 0 001##3") ++ line (codes "1896373 0 fail 0 001##3 5 0") ++ line (codes "1918373 0 start 0 001##3") ++ line (codes "2016373 0 fail 0 001##3 5 0") ++ line (codes "2038373 0 start 0 001##3") ++ line (codes "2136373 0 fail 0 001##3 5 0") ++ line (codes "2158373 0 start 0 001##3") ++ line (codes "2256373 0 fail 0 001##3 5 0") ++ line (codes "2278373 0 start 0 001##3") ++ line (codes "2376373 0 fail 0 001##3 5 0") ++ line (codes "2398373 0 start 0 001##3") ++ line (codes "2496373 0 fail 0 001##3 5 0") ++ line (codes "2518373 0 start 0 001##3") ++ line (codes "end 0 51")
unfolding stuff stuff_open stuffed time_of duration beats winner course start finish recover submit submission_of take_inbox next_due next_event behind head line_text digits spell
run_20 = refl

pub run_21 : scenario_log 1000000 (record { setup = record { number = 0; rate = 500000; fd_rate = Some 2000000; nominal = 2000; data_bit_time = Some 500; errors = record { first = 1; count = 33; kind = 2; by = Some 0; bit = 40 } ∷ record { first = 2; count = 17; kind = 1; by = Some 0; bit = 5 } ∷ [] }; nodes = 0 ∷ 1 ∷ []; stop = 1000000; actions = record { moment = 0; node = 1; item = Op (Transmit (record { id = 67371008; ext = true; kind = Data; bytes = 0 ∷ 85 ∷ [] })) } ∷ record { moment = 0; node = 0; item = Op (Transmit (record { id = 1; ext = false; kind = Data; bytes = 255 ∷ 0 ∷ 85 ∷ 0 ∷ [] })) } ∷ record { moment = 0; node = 0; item = Op (Configuration Discard) } ∷ record { moment = 560690; node = 1; item = Op (Status Active) } ∷ [] })
    ≡ line (codes "0 0 req 1 04040000#0055") ++ line (codes "0 0 req 0 001#ff005500") ++ line (codes "0 0 discard 0") ++ line (codes "0 0 start 0 001#ff005500") ++ line (codes "0 0 lost 1 04040000#0055 keep") ++ line (codes "122000 0 fail 0 001#ff005500 2 0") ++ line (codes "128000 0 start 0 001#ff005500") ++ line (codes "128000 0 lost 1 04040000#0055 keep") ++ line (codes "250000 0 fail 0 001#ff005500 2 0") ++ line (codes "256000 0 start 0 001#ff005500") ++ line (codes "256000 0 lost 1 04040000#0055 keep") ++ line (codes "378000 0 fail 0 001#ff005500 2 0") ++ line (codes "384000 0 start 0 001#ff005500") ++ line (codes "384000 0 lost 1 04040000#0055 keep") ++ line (codes "506000 0 fail 0 001#ff005500 2 0") ++ line (codes "512000 0 start 0 001#ff005500") ++ line (codes "512000 0 lost 1 04040000#0055 keep") ++ line (codes "560690 0 status 1 active") ++ line (codes "634000 0 fail 0 001#ff005500 2 0") ++ line (codes "640000 0 start 0 001#ff005500") ++ line (codes "640000 0 lost 1 04040000#0055 keep") ++ line (codes "762000 0 fail 0 001#ff005500 2 0") ++ line (codes "768000 0 start 0 001#ff005500") ++ line (codes "768000 0 lost 1 04040000#0055 keep") ++ line (codes "890000 0 fail 0 001#ff005500 2 0") ++ line (codes "896000 0 start 0 001#ff005500") ++ line (codes "896000 0 lost 1 04040000#0055 keep") ++ line (codes "end 0 17")
unfolding stuff stuff_open stuffed time_of duration beats winner course start finish recover submit submission_of take_inbox next_due next_event behind head line_text digits spell
run_21 = refl

pub run_22 : scenario_log 1000000 (record { setup = record { number = 0; rate = 500000; fd_rate = Some 2000000; nominal = 2000; data_bit_time = Some 500; errors = record { first = 2; count = 2; kind = 4; by = Some 1; bit = 0 } ∷ record { first = 4; count = 17; kind = 3; by = Some 1; bit = 1000 } ∷ [] }; nodes = 0 ∷ 1 ∷ []; stop = 300000; actions = record { moment = 0; node = 1; item = Op (FdTransmit (record { id = 256; ext = false; kind = Fd false true; bytes = 255 ∷ [] })) } ∷ record { moment = 0; node = 0; item = Op (Transmit (record { id = 0; ext = false; kind = Data; bytes = 85 ∷ 255 ∷ 85 ∷ [] })) } ∷ record { moment = 0; node = 0; item = Op (FormatError ([])) } ∷ record { moment = 2000; node = 1; item = Op (FdTransmit (record { id = 536608768; ext = true; kind = Fd false false; bytes = 90 ∷ [] })) } ∷ record { moment = 2000; node = 0; item = Op Wakeup } ∷ record { moment = 2000; node = 0; item = Op (Configuration Keep) } ∷ [] })
    ≡ line (codes "0 0 req 1 100##2ff") ++ line (codes "0 0 req 0 000#55ff55") ++ line (codes "0 0 ferr 0 -") ++ line (codes "0 0 start 0 000#55ff55") ++ line (codes "0 0 lost 1 100##2ff keep") ++ line (codes "2000 0 req 1 1ffc0000##05a") ++ line (codes "2000 0 wake 0") ++ line (codes "2000 0 keep 0") ++ line (codes "4000 0 told 1 wake") ++ line (codes "146000 0 done 0 000#55ff55 to 1") ++ line (codes "152000 0 start 1 100##2ff") ++ line (codes "194000 0 fail 1 100##2ff 4 1") ++ line (codes "200000 0 start 1 100##2ff") ++ line (codes "242000 0 fail 1 100##2ff 4 1") ++ line (codes "248000 0 start 1 100##2ff") ++ line (codes "end 0 10")
unfolding stuff stuff_open stuffed time_of duration beats winner course start finish recover submit submission_of take_inbox next_due next_event behind head line_text digits spell
run_22 = refl

pub run_23 : scenario_log 1000000 (record { setup = record { number = 0; rate = 500000; fd_rate = Some 2000000; nominal = 2000; data_bit_time = Some 500; errors = [] }; nodes = 0 ∷ 1 ∷ 2 ∷ 3 ∷ []; stop = 2600000; actions = record { moment = 2000; node = 2; item = Op (FdTransmit (record { id = 67108864; ext = true; kind = Fd true true; bytes = 0 ∷ 0 ∷ 90 ∷ 90 ∷ 0 ∷ 0 ∷ 255 ∷ 255 ∷ 255 ∷ 255 ∷ 255 ∷ 90 ∷ 255 ∷ 255 ∷ 90 ∷ 90 ∷ 0 ∷ 255 ∷ 0 ∷ 255 ∷ [] })) } ∷ record { moment = 2000; node = 3; item = Op (Transmit (record { id = 2047; ext = false; kind = Data; bytes = 0 ∷ 0 ∷ 85 ∷ [] })) } ∷ record { moment = 2000; node = 2; item = Op (Transmit (record { id = 256; ext = false; kind = Data; bytes = 85 ∷ 255 ∷ 255 ∷ 255 ∷ 255 ∷ 255 ∷ 255 ∷ [] })) } ∷ record { moment = 19992; node = 3; item = Op (FdTransmit (record { id = 255; ext = false; kind = Fd true true; bytes = 255 ∷ 255 ∷ 90 ∷ 255 ∷ 0 ∷ 90 ∷ 0 ∷ 0 ∷ [] })) } ∷ record { moment = 131884; node = 2; item = Op (Transmit (record { id = 256; ext = false; kind = Remote; bytes = [] })) } ∷ [] })
    ≡ line (codes "2000 0 req 2 04000000##300005a5a0000ffffffffff5affff5a5a00ff00ff") ++ line (codes "2000 0 req 3 7ff#000055") ++ line (codes "2000 0 req 2 100#55ffffffffffff") ++ line (codes "2000 0 start 2 100#55ffffffffffff") ++ line (codes "2000 0 lost 3 7ff#000055 keep") ++ line (codes "19992 0 req 3 0ff##3ffff5aff005a0000") ++ line (codes "131884 0 req 2 100#R") ++ line (codes "228000 0 done 2 100#55ffffffffffff to 0,1,3") ++ line (codes "234000 0 start 3 0ff##3ffff5aff005a0000") ++ line (codes "234000 0 lost 2 100#R keep") ++ line (codes "342000 0 done 3 0ff##3ffff5aff005a0000 to 0,1,2") ++ line (codes "348000 0 start 2 100#R") ++ line (codes "348000 0 lost 3 7ff#000055 keep") ++ line (codes "440000 0 done 2 100#R to 0,1,3") ++ line (codes "446000 0 start 2 04000000##300005a5a0000ffffffffff5affff5a5a00ff00ff") ++ line (codes "446000 0 lost 3 7ff#000055 keep") ++ line (codes "655000 0 done 2 04000000##300005a5a0000ffffffffff5affff5a5a00ff00ff to 0,1,3") ++ line (codes "661000 0 start 3 7ff#000055") ++ line (codes "809000 0 done 3 7ff#000055 to 0,1,2") ++ line (codes "end 0 13")
unfolding stuff stuff_open stuffed time_of duration beats winner course start finish recover submit submission_of take_inbox next_due next_event behind head line_text digits spell
run_23 = refl

pub run_24 : scenario_log 1000000 (record { setup = record { number = 0; rate = 500000; fd_rate = Some 2000000; nominal = 2000; data_bit_time = Some 500; errors = [] }; nodes = 0 ∷ []; stop = 300000; actions = record { moment = 0; node = 0; item = Op (FdTransmit (record { id = 2047; ext = false; kind = Fd false true; bytes = 255 ∷ 0 ∷ 90 ∷ 90 ∷ 0 ∷ 255 ∷ 0 ∷ 255 ∷ [] })) } ∷ record { moment = 0; node = 0; item = Op (Transmit (record { id = 67374022; ext = true; kind = Data; bytes = 255 ∷ 85 ∷ 0 ∷ 0 ∷ 255 ∷ [] })) } ∷ record { moment = 0; node = 0; item = Op Wakeup } ∷ record { moment = 496973; node = 0; item = Op Sleep } ∷ record { moment = 646728; node = 0; item = Op Wakeup } ∷ [] })
    ≡ line (codes "0 0 req 0 7ff##2ff005a5a00ff00ff") ++ line (codes "0 0 req 0 04040bc6#ff550000ff") ++ line (codes "0 0 wake 0") ++ line (codes "0 0 start 0 04040bc6#ff550000ff") ++ line (codes "250000 0 fail 0 04040bc6#ff550000ff 5 0") ++ line (codes "256000 0 start 0 04040bc6#ff550000ff") ++ line (codes "end 0 4")
unfolding stuff stuff_open stuffed time_of duration beats winner course start finish recover submit submission_of take_inbox next_due next_event behind head line_text digits spell
run_24 = refl

pub run_25 : scenario_log 1000000 (record { setup = record { number = 0; rate = 500000; fd_rate = Some 2000000; nominal = 2000; data_bit_time = Some 500; errors = record { first = 5; count = 17; kind = 1; by = Some 1; bit = 5 } ∷ [] }; nodes = 0 ∷ 1 ∷ []; stop = 1000000; actions = record { moment = 0; node = 0; item = Op (Transmit (record { id = 1; ext = false; kind = Data; bytes = 85 ∷ 0 ∷ 85 ∷ 0 ∷ [] })) } ∷ record { moment = 0; node = 1; item = Op Sleep } ∷ record { moment = 0; node = 0; item = Op (Transmit (record { id = 255; ext = false; kind = Data; bytes = 255 ∷ 0 ∷ 85 ∷ 0 ∷ 85 ∷ 255 ∷ 0 ∷ 255 ∷ [] })) } ∷ [] })
    ≡ line (codes "0 0 req 0 001#55005500") ++ line (codes "0 0 sleep 1") ++ line (codes "0 0 req 0 0ff#ff00550055ff00ff") ++ line (codes "0 0 start 0 001#55005500") ++ line (codes "184000 0 fail 0 001#55005500 5 0") ++ line (codes "190000 0 start 0 001#55005500") ++ line (codes "374000 0 fail 0 001#55005500 5 0") ++ line (codes "380000 0 start 0 001#55005500") ++ line (codes "564000 0 fail 0 001#55005500 5 0") ++ line (codes "570000 0 start 0 001#55005500") ++ line (codes "754000 0 fail 0 001#55005500 5 0") ++ line (codes "760000 0 start 0 001#55005500") ++ line (codes "944000 0 fail 0 001#55005500 5 0") ++ line (codes "950000 0 start 0 001#55005500") ++ line (codes "end 0 12")
unfolding stuff stuff_open stuffed time_of duration beats winner course start finish recover submit submission_of take_inbox next_due next_event behind head line_text digits spell
run_25 = refl

pub run_26 : scenario_log 1000000 (record { setup = record { number = 0; rate = 500000; fd_rate = None; nominal = 2000; data_bit_time = None; errors = record { first = 3; count = 17; kind = 1; by = Some 0; bit = 5 } ∷ record { first = 3; count = 1; kind = 1; by = None; bit = 10 } ∷ [] }; nodes = 0 ∷ []; stop = 2600000; actions = record { moment = 0; node = 0; item = Op (FdTransmit (record { id = 2047; ext = false; kind = Fd false true; bytes = [] })) } ∷ record { moment = 2000; node = 0; item = Op (FdTransmit (record { id = 257; ext = false; kind = Fd true false; bytes = 90 ∷ 90 ∷ 90 ∷ 0 ∷ 0 ∷ 255 ∷ 90 ∷ 255 ∷ [] })) } ∷ record { moment = 2000; node = 0; item = Op (FdTransmit (record { id = 536849963; ext = true; kind = Fd false true; bytes = 0 ∷ 90 ∷ 255 ∷ 0 ∷ 0 ∷ 0 ∷ 255 ∷ 255 ∷ 0 ∷ 255 ∷ 90 ∷ 255 ∷ 255 ∷ 255 ∷ 255 ∷ 0 ∷ 255 ∷ 0 ∷ 255 ∷ 0 ∷ [] })) } ∷ record { moment = 2000; node = 0; item = Op (FdTransmit (record { id = 255; ext = false; kind = Fd false false; bytes = [] })) } ∷ [] })
    ≡ line (codes "0 0 bad 0 1100000011000000ff0700000000010000") ++ line (codes "2000 0 told 0 format 1100000011000000ff0700000000010000") ++ line (codes "2000 0 bad 0 11000000190000000101000000010008005a5a5a0000ff5aff") ++ line (codes "2000 0 bad 0 11000000250000002baeff1f0100011400005aff000000ffff00ff5affffffff00ff00ff00") ++ line (codes "2000 0 bad 0 1100000011000000ff0000000000000000") ++ line (codes "4000 0 told 0 format 11000000190000000101000000010008005a5a5a0000ff5aff") ++ line (codes "end 0 3")
unfolding stuff stuff_open stuffed time_of duration beats winner course start finish recover submit submission_of take_inbox next_due next_event behind head line_text digits spell
run_26 = refl

pub run_27 : scenario_log 1000000 (record { setup = record { number = 0; rate = 500000; fd_rate = Some 2000000; nominal = 2000; data_bit_time = Some 500; errors = record { first = 4; count = 1; kind = 1; by = None; bit = 5 } ∷ [] }; nodes = 0 ∷ []; stop = 2600000; actions = record { moment = 2000; node = 0; item = Op (Transmit (record { id = 1; ext = false; kind = Remote; bytes = [] })) } ∷ record { moment = 567204; node = 0; item = Op (FdTransmit (record { id = 255; ext = false; kind = Fd false true; bytes = 0 ∷ 90 ∷ 90 ∷ 0 ∷ 90 ∷ 90 ∷ 90 ∷ 90 ∷ 255 ∷ 255 ∷ 90 ∷ 255 ∷ 255 ∷ 90 ∷ 0 ∷ 255 ∷ 90 ∷ 0 ∷ 90 ∷ 0 ∷ [] })) } ∷ [] })
    ≡ line (codes "2000 0 req 0 001#R") ++ line (codes "2000 0 start 0 001#R") ++ line (codes "120000 0 fail 0 001#R 5 0") ++ line (codes "126000 0 start 0 001#R") ++ line (codes "244000 0 fail 0 001#R 5 0") ++ line (codes "250000 0 start 0 001#R") ++ line (codes "368000 0 fail 0 001#R 5 0") ++ line (codes "374000 0 start 0 001#R") ++ line (codes "426000 0 fail 0 001#R 1 0") ++ line (codes "432000 0 start 0 001#R") ++ line (codes "550000 0 fail 0 001#R 5 0") ++ line (codes "556000 0 start 0 001#R") ++ line (codes "567204 0 req 0 0ff##2005a5a005a5a5a5affff5affff5a00ff5a005a00") ++ line (codes "674000 0 fail 0 001#R 5 0") ++ line (codes "680000 0 start 0 001#R") ++ line (codes "798000 0 fail 0 001#R 5 0") ++ line (codes "804000 0 start 0 001#R") ++ line (codes "922000 0 fail 0 001#R 5 0") ++ line (codes "928000 0 start 0 001#R") ++ line (codes "1046000 0 fail 0 001#R 5 0") ++ line (codes "1052000 0 start 0 001#R") ++ line (codes "1170000 0 fail 0 001#R 5 0") ++ line (codes "1176000 0 start 0 001#R") ++ line (codes "1294000 0 fail 0 001#R 5 0") ++ line (codes "1300000 0 start 0 001#R") ++ line (codes "1418000 0 fail 0 001#R 5 0") ++ line (codes "1424000 0 start 0 001#R") ++ line (codes "1542000 0 fail 0 001#R 5 0") ++ line (codes "1548000 0 start 0 001#R") ++ line (codes "1666000 0 fail 0 001#R 5 0") ++ line (codes "1672000 0 start 0 001#R") ++ line (codes "1790000 0 fail 0 001#R 5 0") ++ line (codes "1796000 0 start 0 001#R") ++ line (codes "1914000 0 fail 0 001#R 5 0") ++ line (codes "1914000 0 state 0 passive") ++ line (codes "1936000 0 start 0 001#R") ++ line (codes "2054000 0 fail 0 001#R 5 0") ++ line (codes "2076000 0 start 0 001#R") ++ line (codes "2194000 0 fail 0 001#R 5 0") ++ line (codes "2216000 0 start 0 001#R") ++ line (codes "2334000 0 fail 0 001#R 5 0") ++ line (codes "2356000 0 start 0 001#R") ++ line (codes "2474000 0 fail 0 001#R 5 0") ++ line (codes "2496000 0 start 0 001#R") ++ line (codes "end 0 43")
unfolding stuff stuff_open stuffed time_of duration beats winner course start finish recover submit submission_of take_inbox next_due next_event behind head line_text digits spell
run_27 = refl

pub run_28 : scenario_log 1000000 (record { setup = record { number = 0; rate = 500000; fd_rate = Some 2000000; nominal = 2000; data_bit_time = Some 500; errors = [] }; nodes = 0 ∷ 1 ∷ 2 ∷ 3 ∷ []; stop = 1000000; actions = record { moment = 0; node = 1; item = Op (Transmit (record { id = 67108864; ext = true; kind = Data; bytes = 85 ∷ 255 ∷ 0 ∷ 85 ∷ 0 ∷ [] })) } ∷ record { moment = 0; node = 3; item = Op (Transmit (record { id = 289999; ext = true; kind = Remote; bytes = [] })) } ∷ record { moment = 0; node = 2; item = Op (FdTransmit (record { id = 66846720; ext = true; kind = Fd true false; bytes = 90 ∷ 255 ∷ 255 ∷ 90 ∷ 0 ∷ 0 ∷ 0 ∷ 0 ∷ [] })) } ∷ record { moment = 2000; node = 1; item = Op (Transmit (record { id = 0; ext = false; kind = Data; bytes = [] })) } ∷ record { moment = 2000; node = 0; item = Op (Transmit (record { id = 257; ext = false; kind = Data; bytes = 255 ∷ 0 ∷ [] })) } ∷ record { moment = 2000; node = 1; item = Op (Transmit (record { id = 0; ext = false; kind = Remote; bytes = [] })) } ∷ record { moment = 70038; node = 0; item = Op (FormatError (175 ∷ 175 ∷ 160 ∷ [])) } ∷ record { moment = 697777; node = 0; item = Op (Transmit (record { id = 2047; ext = false; kind = Data; bytes = 0 ∷ [] })) } ∷ [] })
    ≡ line (codes "0 0 req 1 04000000#55ff005500") ++ line (codes "0 0 req 3 00046ccf#R") ++ line (codes "0 0 req 2 03fc0000##15affff5a00000000") ++ line (codes "0 0 start 3 00046ccf#R") ++ line (codes "0 0 lost 1 04000000#55ff005500 keep") ++ line (codes "0 0 lost 2 03fc0000##15affff5a00000000 keep") ++ line (codes "2000 0 req 1 000#") ++ line (codes "2000 0 req 0 101#ff00") ++ line (codes "2000 0 req 1 000#R") ++ line (codes "70038 0 ferr 0 afafa0") ++ line (codes "138000 0 done 3 00046ccf#R to 0,1,2") ++ line (codes "144000 0 start 1 000#") ++ line (codes "144000 0 lost 0 101#ff00 keep") ++ line (codes "144000 0 lost 2 03fc0000##15affff5a00000000 keep") ++ line (codes "244000 0 done 1 000# to 0,2,3") ++ line (codes "250000 0 start 1 000#R") ++ line (codes "250000 0 lost 0 101#ff00 keep") ++ line (codes "250000 0 lost 2 03fc0000##15affff5a00000000 keep") ++ line (codes "344000 0 done 1 000#R to 0,2,3") ++ line (codes "350000 0 start 2 03fc0000##15affff5a00000000") ++ line (codes "350000 0 lost 0 101#ff00 keep") ++ line (codes "350000 0 lost 1 04000000#55ff005500 keep") ++ line (codes "506500 0 done 2 03fc0000##15affff5a00000000 to 0,1,3") ++ line (codes "512500 0 start 1 04000000#55ff005500") ++ line (codes "512500 0 lost 0 101#ff00 keep") ++ line (codes "697777 0 req 0 7ff#00") ++ line (codes "738500 0 done 1 04000000#55ff005500 to 0,2,3") ++ line (codes "744500 0 start 0 101#ff00") ++ line (codes "874500 0 done 0 101#ff00 to 1,2,3") ++ line (codes "880500 0 start 0 7ff#00") ++ line (codes "994500 0 done 0 7ff#00 to 1,2,3") ++ line (codes "end 0 18")
unfolding stuff stuff_open stuffed time_of duration beats winner course start finish recover submit submission_of take_inbox next_due next_event behind head line_text digits spell
run_28 = refl

pub run_29 : scenario_log 1000000 (record { setup = record { number = 0; rate = 500000; fd_rate = Some 2000000; nominal = 2000; data_bit_time = Some 500; errors = [] }; nodes = 0 ∷ 1 ∷ 2 ∷ []; stop = 1000000; actions = record { moment = 0; node = 0; item = Op (Configuration Discard) } ∷ record { moment = 2000; node = 0; item = Op (Status Off) } ∷ record { moment = 2000; node = 0; item = Op (Transmit (record { id = 1; ext = false; kind = Remote; bytes = [] })) } ∷ record { moment = 2000; node = 0; item = Op (Transmit (record { id = 234226; ext = true; kind = Data; bytes = 0 ∷ 85 ∷ 255 ∷ [] })) } ∷ record { moment = 81308; node = 2; item = Op (Transmit (record { id = 255; ext = false; kind = Data; bytes = 255 ∷ 85 ∷ 0 ∷ [] })) } ∷ record { moment = 170105; node = 1; item = Op Wakeup } ∷ [] })
    ≡ line (codes "0 0 discard 0") ++ line (codes "2000 0 status 0 off") ++ line (codes "2000 0 req 0 001#R") ++ line (codes "2000 0 req 0 000392f2#0055ff") ++ line (codes "2000 0 start 0 000392f2#0055ff") ++ line (codes "81308 0 req 2 0ff#ff5500") ++ line (codes "170105 0 wake 1") ++ line (codes "172105 0 told 0 wake") ++ line (codes "172105 0 told 2 wake") ++ line (codes "190000 0 done 0 000392f2#0055ff to 1,2") ++ line (codes "196000 0 start 0 001#R") ++ line (codes "196000 0 lost 2 0ff#ff5500 keep") ++ line (codes "290000 0 done 0 001#R to 1,2") ++ line (codes "296000 0 start 2 0ff#ff5500") ++ line (codes "444000 0 done 2 0ff#ff5500 to 0,1") ++ line (codes "end 0 11")
unfolding stuff stuff_open stuffed time_of duration beats winner course start finish recover submit submission_of take_inbox next_due next_event behind head line_text digits spell
run_29 = refl

pub run_30 : scenario_log 1000000 (record { setup = record { number = 0; rate = 500000; fd_rate = Some 2000000; nominal = 2000; data_bit_time = Some 500; errors = record { first = 3; count = 2; kind = 2; by = Some 0; bit = 1000 } ∷ record { first = 2; count = 17; kind = 4; by = Some 0; bit = 40 } ∷ [] }; nodes = 0 ∷ []; stop = 1000000; actions = record { moment = 0; node = 0; item = Op (Configuration Keep) } ∷ record { moment = 0; node = 0; item = Op (FormatError ([])) } ∷ record { moment = 0; node = 0; item = Op (Configuration (FdRate 2000000)) } ∷ record { moment = 2000; node = 0; item = Op (FdTransmit (record { id = 2047; ext = false; kind = Fd false true; bytes = 255 ∷ 255 ∷ 255 ∷ 0 ∷ 255 ∷ 255 ∷ 0 ∷ 255 ∷ [] })) } ∷ record { moment = 118288; node = 0; item = Op (FdTransmit (record { id = 2047; ext = false; kind = Fd true false; bytes = 90 ∷ 0 ∷ 0 ∷ 90 ∷ 255 ∷ 90 ∷ 0 ∷ 90 ∷ 0 ∷ 255 ∷ 90 ∷ 0 ∷ [] })) } ∷ record { moment = 572584; node = 0; item = Op (Transmit (record { id = 67489298; ext = true; kind = Data; bytes = 85 ∷ 255 ∷ 255 ∷ [] })) } ∷ [] })
    ≡ line (codes "0 0 keep 0") ++ line (codes "0 0 ferr 0 -") ++ line (codes "0 0 fdrate 0 2000000") ++ line (codes "2000 0 req 0 7ff##2ffffff00ffff00ff") ++ line (codes "2000 0 start 0 7ff##2ffffff00ffff00ff") ++ line (codes "118288 0 req 0 7ff##15a00005aff5a005a00ff5a00") ++ line (codes "296000 0 fail 0 7ff##2ffffff00ffff00ff 5 0") ++ line (codes "302000 0 start 0 7ff##2ffffff00ffff00ff") ++ line (codes "424000 0 fail 0 7ff##2ffffff00ffff00ff 4 0") ++ line (codes "430000 0 start 0 7ff##2ffffff00ffff00ff") ++ line (codes "572584 0 req 0 0405ce12#55ffff") ++ line (codes "740000 0 fail 0 7ff##2ffffff00ffff00ff 2 0") ++ line (codes "746000 0 start 0 0405ce12#55ffff") ++ line (codes "972000 0 fail 0 0405ce12#55ffff 2 0") ++ line (codes "978000 0 start 0 0405ce12#55ffff") ++ line (codes "end 0 13")
unfolding stuff stuff_open stuffed time_of duration beats winner course start finish recover submit submission_of take_inbox next_due next_event behind head line_text digits spell
run_30 = refl

pub run_31 : scenario_log 1000000 (record { setup = record { number = 0; rate = 500000; fd_rate = None; nominal = 2000; data_bit_time = None; errors = [] }; nodes = 0 ∷ []; stop = 300000; actions = record { moment = 0; node = 0; item = Op (Status Active) } ∷ record { moment = 0; node = 0; item = Op Wakeup } ∷ record { moment = 0; node = 0; item = Op Wakeup } ∷ record { moment = 0; node = 0; item = Op (FdTransmit (record { id = 255; ext = false; kind = Fd true false; bytes = 0 ∷ 90 ∷ 0 ∷ 255 ∷ 255 ∷ 0 ∷ 255 ∷ 90 ∷ 255 ∷ 90 ∷ 255 ∷ 255 ∷ [] })) } ∷ record { moment = 2000; node = 0; item = Op (Configuration Keep) } ∷ record { moment = 2000; node = 0; item = Op (FdTransmit (record { id = 66989860; ext = true; kind = Fd true true; bytes = 90 ∷ 0 ∷ 90 ∷ 90 ∷ 0 ∷ 0 ∷ 0 ∷ 255 ∷ 90 ∷ 255 ∷ 255 ∷ 255 ∷ [] })) } ∷ record { moment = 286870; node = 0; item = Op (Configuration Discard) } ∷ record { moment = 639682; node = 0; item = Op (Configuration (Rate 500000)) } ∷ [] })
    ≡ line (codes "0 0 status 0 active") ++ line (codes "0 0 wake 0") ++ line (codes "0 0 wake 0") ++ line (codes "0 0 bad 0 110000001d000000ff0000000001000c00005a00ffff00ff5aff5affff") ++ line (codes "2000 0 told 0 format 110000001d000000ff0000000001000c00005a00ffff00ff5aff5affff") ++ line (codes "2000 0 keep 0") ++ line (codes "2000 0 bad 0 110000001d000000242ffe030101010c005a005a5a000000ff5affffff") ++ line (codes "4000 0 told 0 format 110000001d000000242ffe030101010c005a005a5a000000ff5affffff") ++ line (codes "286870 0 discard 0") ++ line (codes "end 0 4")
unfolding stuff stuff_open stuffed time_of duration beats winner course start finish recover submit submission_of take_inbox next_due next_event behind head line_text digits spell
run_31 = refl

pub run_32 : scenario_log 1000000 (record { setup = record { number = 0; rate = 500000; fd_rate = Some 2000000; nominal = 2000; data_bit_time = Some 500; errors = [] }; nodes = 0 ∷ 1 ∷ 2 ∷ 3 ∷ []; stop = 2600000; actions = record { moment = 0; node = 2; item = Op (Transmit (record { id = 0; ext = true; kind = Data; bytes = 255 ∷ 255 ∷ 255 ∷ [] })) } ∷ record { moment = 0; node = 2; item = Op (Configuration Discard) } ∷ record { moment = 0; node = 2; item = Op (Configuration Discard) } ∷ record { moment = 2000; node = 2; item = Op (Status Off) } ∷ record { moment = 2000; node = 0; item = Op (FormatError ([])) } ∷ [] })
    ≡ line (codes "0 0 req 2 00000000#ffffff") ++ line (codes "0 0 discard 2") ++ line (codes "0 0 discard 2") ++ line (codes "0 0 start 2 00000000#ffffff") ++ line (codes "2000 0 status 2 off") ++ line (codes "2000 0 ferr 0 -") ++ line (codes "198000 0 done 2 00000000#ffffff to 0,1,3") ++ line (codes "end 0 4")
unfolding stuff stuff_open stuffed time_of duration beats winner course start finish recover submit submission_of take_inbox next_due next_event behind head line_text digits spell
run_32 = refl

pub run_33 : scenario_log 1000000 (record { setup = record { number = 0; rate = 500000; fd_rate = Some 2000000; nominal = 2000; data_bit_time = Some 500; errors = [] }; nodes = 0 ∷ 1 ∷ []; stop = 1000000; actions = record { moment = 0; node = 0; item = Op (Transmit (record { id = 1; ext = false; kind = Data; bytes = 0 ∷ [] })) } ∷ record { moment = 0; node = 1; item = Op (Transmit (record { id = 257; ext = false; kind = Data; bytes = 85 ∷ 0 ∷ 0 ∷ 255 ∷ 0 ∷ 0 ∷ [] })) } ∷ record { moment = 2000; node = 1; item = Op (Transmit (record { id = 2047; ext = false; kind = Data; bytes = 0 ∷ 85 ∷ 85 ∷ 0 ∷ 255 ∷ [] })) } ∷ record { moment = 2000; node = 1; item = Op (Transmit (record { id = 256; ext = false; kind = Data; bytes = 255 ∷ 85 ∷ 0 ∷ 85 ∷ 0 ∷ 255 ∷ [] })) } ∷ record { moment = 703812; node = 0; item = Op (FdTransmit (record { id = 255; ext = false; kind = Fd false false; bytes = 255 ∷ 90 ∷ 0 ∷ 255 ∷ 90 ∷ 255 ∷ 255 ∷ 0 ∷ 255 ∷ 90 ∷ 255 ∷ 90 ∷ 0 ∷ 255 ∷ 90 ∷ 255 ∷ 0 ∷ 0 ∷ 0 ∷ 255 ∷ [] })) } ∷ [] })
    ≡ line (codes "0 0 req 0 001#00") ++ line (codes "0 0 req 1 101#550000ff0000") ++ line (codes "0 0 start 0 001#00") ++ line (codes "0 0 lost 1 101#550000ff0000 keep") ++ line (codes "2000 0 req 1 7ff#00555500ff") ++ line (codes "2000 0 req 1 100#ff55005500ff") ++ line (codes "116000 0 done 0 001#00 to 1") ++ line (codes "122000 0 start 1 100#ff55005500ff") ++ line (codes "320000 0 done 1 100#ff55005500ff to 0") ++ line (codes "326000 0 start 1 101#550000ff0000") ++ line (codes "526000 0 done 1 101#550000ff0000 to 0") ++ line (codes "532000 0 start 1 7ff#00555500ff") ++ line (codes "703812 0 req 0 0ff##0ff5a00ff5affff00ff5aff5a00ff5aff000000ff") ++ line (codes "710000 0 done 1 7ff#00555500ff to 0") ++ line (codes "716000 0 start 0 0ff##0ff5a00ff5affff00ff5aff5a00ff5aff000000ff") ++ line (codes "end 0 12")
unfolding stuff stuff_open stuffed time_of duration beats winner course start finish recover submit submission_of take_inbox next_due next_event behind head line_text digits spell
run_33 = refl

pub run_34 : scenario_log 1000000 (record { setup = record { number = 0; rate = 500000; fd_rate = Some 2000000; nominal = 2000; data_bit_time = Some 500; errors = record { first = 3; count = 1; kind = 1; by = Some 0; bit = 5 } ∷ [] }; nodes = 0 ∷ []; stop = 1000000; actions = record { moment = 99787; node = 0; item = Op (Transmit (record { id = 1; ext = false; kind = Data; bytes = 255 ∷ 0 ∷ 0 ∷ 0 ∷ 255 ∷ [] })) } ∷ record { moment = 594663; node = 0; item = Op (FdTransmit (record { id = 0; ext = false; kind = Fd false true; bytes = 0 ∷ [] })) } ∷ [] })
    ≡ line (codes "99787 0 req 0 001#ff000000ff") ++ line (codes "99787 0 start 0 001#ff000000ff") ++ line (codes "307787 0 fail 0 001#ff000000ff 5 0") ++ line (codes "313787 0 start 0 001#ff000000ff") ++ line (codes "521787 0 fail 0 001#ff000000ff 5 0") ++ line (codes "527787 0 start 0 001#ff000000ff") ++ line (codes "579787 0 fail 0 001#ff000000ff 1 0") ++ line (codes "585787 0 start 0 001#ff000000ff") ++ line (codes "594663 0 req 0 000##200") ++ line (codes "793787 0 fail 0 001#ff000000ff 5 0") ++ line (codes "799787 0 start 0 000##200") ++ line (codes "963787 0 fail 0 000##200 5 0") ++ line (codes "969787 0 start 0 000##200") ++ line (codes "end 0 13")
unfolding stuff stuff_open stuffed time_of duration beats winner course start finish recover submit submission_of take_inbox next_due next_event behind head line_text digits spell
run_34 = refl

pub run_35 : scenario_log 1000000 (record { setup = record { number = 0; rate = 500000; fd_rate = Some 2000000; nominal = 2000; data_bit_time = Some 500; errors = record { first = 1; count = 1; kind = 2; by = Some 1; bit = 5 } ∷ [] }; nodes = 0 ∷ 1 ∷ 2 ∷ 3 ∷ []; stop = 1000000; actions = record { moment = 0; node = 3; item = Op (Transmit (record { id = 1; ext = false; kind = Data; bytes = [] })) } ∷ record { moment = 0; node = 2; item = Op Wakeup } ∷ record { moment = 356182; node = 2; item = Op (Configuration Discard) } ∷ [] })
    ≡ line (codes "0 0 req 3 001#") ++ line (codes "0 0 wake 2") ++ line (codes "0 0 start 3 001#") ++ line (codes "2000 0 told 0 wake") ++ line (codes "2000 0 told 1 wake") ++ line (codes "2000 0 told 3 wake") ++ line (codes "52000 0 fail 3 001# 2 1") ++ line (codes "58000 0 start 3 001#") ++ line (codes "152000 0 done 3 001# to 0,1,2") ++ line (codes "356182 0 discard 2") ++ line (codes "end 0 7")
unfolding stuff stuff_open stuffed time_of duration beats winner course start finish recover submit submission_of take_inbox next_due next_event behind head line_text digits spell
run_35 = refl

pub run_36 : scenario_log 1000000 (record { setup = record { number = 0; rate = 500000; fd_rate = Some 2000000; nominal = 2000; data_bit_time = Some 500; errors = record { first = 3; count = 2; kind = 3; by = Some 1; bit = 1000 } ∷ [] }; nodes = 0 ∷ 1 ∷ 2 ∷ 3 ∷ []; stop = 2600000; actions = record { moment = 0; node = 0; item = Op (Transmit (record { id = 256; ext = false; kind = Data; bytes = 85 ∷ 0 ∷ 85 ∷ 85 ∷ 255 ∷ [] })) } ∷ record { moment = 0; node = 1; item = Op (FdTransmit (record { id = 257; ext = false; kind = Fd false true; bytes = [] })) } ∷ record { moment = 2000; node = 2; item = Op (Transmit (record { id = 67203353; ext = true; kind = Data; bytes = 255 ∷ 85 ∷ 85 ∷ 0 ∷ 0 ∷ [] })) } ∷ record { moment = 2000; node = 0; item = Op (Transmit (record { id = 257; ext = false; kind = Data; bytes = 255 ∷ 255 ∷ 0 ∷ 85 ∷ 255 ∷ 0 ∷ 85 ∷ [] })) } ∷ record { moment = 62280; node = 3; item = Op (FormatError ([])) } ∷ record { moment = 397748; node = 0; item = Op (FdTransmit (record { id = 0; ext = true; kind = Fd true true; bytes = 255 ∷ 90 ∷ 255 ∷ 0 ∷ 90 ∷ 255 ∷ 90 ∷ 90 ∷ 0 ∷ 255 ∷ 255 ∷ 0 ∷ [] })) } ∷ record { moment = 839155; node = 2; item = Op Wakeup } ∷ [] })
    ≡ line (codes "0 0 req 0 100#55005555ff") ++ line (codes "0 0 req 1 101##2") ++ line (codes "0 0 start 0 100#55005555ff") ++ line (codes "0 0 lost 1 101##2 keep") ++ line (codes "2000 0 req 2 04017119#ff55550000") ++ line (codes "2000 0 req 0 101#ffff0055ff0055") ++ line (codes "62280 0 ferr 3 -") ++ line (codes "176000 0 done 0 100#55005555ff to 1,2,3") ++ line (codes "182000 0 start 2 04017119#ff55550000") ++ line (codes "182000 0 lost 0 101#ffff0055ff0055 keep") ++ line (codes "182000 0 lost 1 101##2 keep") ++ line (codes "397748 0 req 0 00000000##3ff5aff005aff5a5a00ffff00") ++ line (codes "400000 0 done 2 04017119#ff55550000 to 0,1,3") ++ line (codes "406000 0 start 0 00000000##3ff5aff005aff5a5a00ffff00") ++ line (codes "406000 0 lost 1 101##2 keep") ++ line (codes "616500 0 fail 0 00000000##3ff5aff005aff5a5a00ffff00 3 1") ++ line (codes "622500 0 start 0 00000000##3ff5aff005aff5a5a00ffff00") ++ line (codes "622500 0 lost 1 101##2 keep") ++ line (codes "833000 0 fail 0 00000000##3ff5aff005aff5a5a00ffff00 3 1") ++ line (codes "839000 0 start 0 00000000##3ff5aff005aff5a5a00ffff00") ++ line (codes "839000 0 lost 1 101##2 keep") ++ line (codes "839155 0 wake 2") ++ line (codes "841155 0 told 0 wake") ++ line (codes "841155 0 told 1 wake") ++ line (codes "841155 0 told 3 wake") ++ line (codes "1009500 0 done 0 00000000##3ff5aff005aff5a5a00ffff00 to 1,2,3") ++ line (codes "1015500 0 start 0 101#ffff0055ff0055") ++ line (codes "1015500 0 lost 1 101##2 keep") ++ line (codes "1229500 0 done 0 101#ffff0055ff0055 to 1,2,3") ++ line (codes "1235500 0 start 1 101##2") ++ line (codes "1355500 0 done 1 101##2 to 0,2,3") ++ line (codes "end 0 20")
unfolding stuff stuff_open stuffed time_of duration beats winner course start finish recover submit submission_of take_inbox next_due next_event behind head line_text digits spell
run_36 = refl

pub run_37 : scenario_log 1000000 (record { setup = record { number = 0; rate = 500000; fd_rate = Some 2000000; nominal = 2000; data_bit_time = Some 500; errors = record { first = 4; count = 33; kind = 4; by = None; bit = 0 } ∷ [] }; nodes = 0 ∷ []; stop = 1000000; actions = record { moment = 0; node = 0; item = Op (FdTransmit (record { id = 1; ext = false; kind = Fd false false; bytes = 90 ∷ [] })) } ∷ record { moment = 0; node = 0; item = Op Wakeup } ∷ record { moment = 2000; node = 0; item = Op (Transmit (record { id = 2047; ext = false; kind = Remote; bytes = [] })) } ∷ record { moment = 2000; node = 0; item = Op Wakeup } ∷ record { moment = 2000; node = 0; item = Op (Transmit (record { id = 256; ext = false; kind = Data; bytes = [] })) } ∷ [] })
    ≡ line (codes "0 0 req 0 001##05a") ++ line (codes "0 0 wake 0") ++ line (codes "0 0 start 0 001##05a") ++ line (codes "2000 0 req 0 7ff#R") ++ line (codes "2000 0 wake 0") ++ line (codes "2000 0 req 0 100#") ++ line (codes "164000 0 fail 0 001##05a 5 0") ++ line (codes "170000 0 start 0 001##05a") ++ line (codes "334000 0 fail 0 001##05a 5 0") ++ line (codes "340000 0 start 0 001##05a") ++ line (codes "504000 0 fail 0 001##05a 5 0") ++ line (codes "510000 0 start 0 001##05a") ++ line (codes "552000 0 fail 0 001##05a 4 0") ++ line (codes "558000 0 start 0 001##05a") ++ line (codes "600000 0 fail 0 001##05a 4 0") ++ line (codes "606000 0 start 0 001##05a") ++ line (codes "648000 0 fail 0 001##05a 4 0") ++ line (codes "654000 0 start 0 001##05a") ++ line (codes "696000 0 fail 0 001##05a 4 0") ++ line (codes "702000 0 start 0 001##05a") ++ line (codes "744000 0 fail 0 001##05a 4 0") ++ line (codes "750000 0 start 0 001##05a") ++ line (codes "792000 0 fail 0 001##05a 4 0") ++ line (codes "798000 0 start 0 001##05a") ++ line (codes "840000 0 fail 0 001##05a 4 0") ++ line (codes "846000 0 start 0 001##05a") ++ line (codes "888000 0 fail 0 001##05a 4 0") ++ line (codes "894000 0 start 0 001##05a") ++ line (codes "936000 0 fail 0 001##05a 4 0") ++ line (codes "942000 0 start 0 001##05a") ++ line (codes "984000 0 fail 0 001##05a 4 0") ++ line (codes "990000 0 start 0 001##05a") ++ line (codes "end 0 29")
unfolding stuff stuff_open stuffed time_of duration beats winner course start finish recover submit submission_of take_inbox next_due next_event behind head line_text digits spell
run_37 = refl

pub run_38 : scenario_log 1000000 (record { setup = record { number = 0; rate = 500000; fd_rate = Some 2000000; nominal = 2000; data_bit_time = Some 500; errors = [] }; nodes = 0 ∷ []; stop = 2600000; actions = record { moment = 2000; node = 0; item = Op (Transmit (record { id = 0; ext = false; kind = Data; bytes = [] })) } ∷ record { moment = 2000; node = 0; item = Op (Configuration Keep) } ∷ record { moment = 497551; node = 0; item = Op (Transmit (record { id = 256; ext = false; kind = Data; bytes = 255 ∷ 255 ∷ 0 ∷ 255 ∷ [] })) } ∷ [] })
    ≡ line (codes "2000 0 req 0 000#") ++ line (codes "2000 0 keep 0") ++ line (codes "2000 0 start 0 000#") ++ line (codes "126000 0 fail 0 000# 5 0") ++ line (codes "132000 0 start 0 000#") ++ line (codes "256000 0 fail 0 000# 5 0") ++ line (codes "262000 0 start 0 000#") ++ line (codes "386000 0 fail 0 000# 5 0") ++ line (codes "392000 0 start 0 000#") ++ line (codes "497551 0 req 0 100#ffff00ff") ++ line (codes "516000 0 fail 0 000# 5 0") ++ line (codes "522000 0 start 0 000#") ++ line (codes "646000 0 fail 0 000# 5 0") ++ line (codes "652000 0 start 0 000#") ++ line (codes "776000 0 fail 0 000# 5 0") ++ line (codes "782000 0 start 0 000#") ++ line (codes "906000 0 fail 0 000# 5 0") ++ line (codes "912000 0 start 0 000#") ++ line (codes "1036000 0 fail 0 000# 5 0") ++ line (codes "1042000 0 start 0 000#") ++ line (codes "1166000 0 fail 0 000# 5 0") ++ line (codes "1172000 0 start 0 000#") ++ line (codes "1296000 0 fail 0 000# 5 0") ++ line (codes "1302000 0 start 0 000#") ++ line (codes "1426000 0 fail 0 000# 5 0") ++ line (codes "1432000 0 start 0 000#") ++ line (codes "1556000 0 fail 0 000# 5 0") ++ line (codes "1562000 0 start 0 000#") ++ line (codes "1686000 0 fail 0 000# 5 0") ++ line (codes "1692000 0 start 0 000#") ++ line (codes "1816000 0 fail 0 000# 5 0") ++ line (codes "1822000 0 start 0 000#") ++ line (codes "1946000 0 fail 0 000# 5 0") ++ line (codes "1952000 0 start 0 000#") ++ line (codes "2076000 0 fail 0 000# 5 0") ++ line (codes "2076000 0 state 0 passive") ++ line (codes "2098000 0 start 0 000#") ++ line (codes "2222000 0 fail 0 000# 5 0") ++ line (codes "2244000 0 start 0 000#") ++ line (codes "2368000 0 fail 0 000# 5 0") ++ line (codes "2390000 0 start 0 000#") ++ line (codes "2514000 0 fail 0 000# 5 0") ++ line (codes "2536000 0 start 0 000#") ++ line (codes "end 0 41")
unfolding stuff stuff_open stuffed time_of duration beats winner course start finish recover submit submission_of take_inbox next_due next_event behind head line_text digits spell
run_38 = refl

pub run_39 : scenario_log 1000000 (record { setup = record { number = 0; rate = 500000; fd_rate = Some 2000000; nominal = 2000; data_bit_time = Some 500; errors = record { first = 2; count = 1; kind = 1; by = None; bit = 10 } ∷ record { first = 1; count = 17; kind = 1; by = Some 0; bit = 1000 } ∷ [] }; nodes = 0 ∷ 1 ∷ []; stop = 1000000; actions = record { moment = 0; node = 1; item = Op Wakeup } ∷ record { moment = 0; node = 1; item = Op (Configuration Discard) } ∷ [] })
    ≡ line (codes "0 0 wake 1") ++ line (codes "0 0 discard 1") ++ line (codes "2000 0 told 0 wake") ++ line (codes "end 0 2")
unfolding stuff stuff_open stuffed time_of duration beats winner course start finish recover submit submission_of take_inbox next_due next_event behind head line_text digits spell
run_39 = refl
