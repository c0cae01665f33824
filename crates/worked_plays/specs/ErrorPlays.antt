-- random plays with many errors
use Rattle.std.specs.Prelude.{◌≡◌, ℕ, true, false, List, [], ◌∷◌, ◌++◌, Some, None, codes, refl}
use Rattle.std.specs.Fmt.{digits}
use Rattle.frame_specs.specs.Frame.{Data, Remote, Fd}
use Rattle.frame_specs.specs.Wire.{stuff, stuff_open, stuffed, time_of, duration}
use Rattle.frame_specs.specs.Dominance.{beats}
use Rattle.operation_specs.specs.Operation.{Transmit, FdTransmit, Configuration, Keep, Discard, Wakeup, Sleep, Rate, FdRate, Status, Passive, FormatError}
use Rattle.operation_specs.specs.Spelling.{spell}
use Rattle.operation_specs.specs.Reading.{Op, Bad}
use Rattle.bus_specs.specs.Bus.{winner}
use Rattle.bus_specs.specs.Start.{course, start}
use Rattle.bus_specs.specs.Finish.{finish, recover}
use Rattle.bus_specs.specs.Submit.{submission_of, submit}
use Rattle.bus_specs.specs.Inbox.{take_inbox}
use Rattle.log_specs.specs.Line.{line_text}
use Rattle.bus_specs.specs.Due.{next_due}
use Rattle.run_specs.specs.Run.{behind, head}
use Rattle.play_specs.specs.Scenario.{next_event, scenario_log}

abbrev line : List ℕ → List ℕ
line text = text ++ 10 ∷ []

pub run_101 : scenario_log 1000000 (record { setup = record { number = 0; rate = 500000; fd_rate = None; nominal = 2000; data_bit_time = None; errors = record { first = 1; count = 32; kind = 1; by = None; bit = 10 } ∷ record { first = 34; count = 3; kind = 2; by = Some 0; bit = 7 } ∷ [] }; nodes = 0 ∷ 1 ∷ 2 ∷ []; stop = 6000000; actions = record { moment = 0; node = 0; item = Op (FdTransmit (record { id = 262144; ext = true; kind = Fd false true; bytes = 255 ∷ [] })) } ∷ record { moment = 0; node = 1; item = Op Sleep } ∷ record { moment = 2000; node = 2; item = Op (Configuration Discard) } ∷ record { moment = 2000; node = 1; item = Op Wakeup } ∷ record { moment = 2000; node = 0; item = Op (FdTransmit (record { id = 1; ext = false; kind = Fd true true; bytes = 255 ∷ 0 ∷ 255 ∷ 0 ∷ 0 ∷ 0 ∷ 90 ∷ 90 ∷ 0 ∷ 255 ∷ 0 ∷ 90 ∷ [] })) } ∷ record { moment = 1307365; node = 1; item = Op (FdTransmit (record { id = 2047; ext = false; kind = Fd true false; bytes = 90 ∷ 90 ∷ 90 ∷ 90 ∷ 255 ∷ 255 ∷ 90 ∷ 0 ∷ 90 ∷ 90 ∷ 90 ∷ 0 ∷ [] })) } ∷ record { moment = 3020226; node = 2; item = Op (FdTransmit (record { id = 257; ext = false; kind = Fd true true; bytes = 255 ∷ [] })) } ∷ record { moment = 3059463; node = 0; item = Op (Transmit (record { id = 2047; ext = false; kind = Data; bytes = [] })) } ∷ record { moment = 3095647; node = 0; item = Op (Transmit (record { id = 256; ext = false; kind = Data; bytes = 85 ∷ 255 ∷ 255 ∷ 255 ∷ 0 ∷ [] })) } ∷ [] })
    ≡ line (codes "0 0 bad 0 1100000012000000000004000100010100ff") ++ line (codes "0 0 sleep 1") ++ line (codes "2000 0 told 0 format 1100000012000000000004000100010100ff") ++ line (codes "2000 0 discard 2") ++ line (codes "2000 0 wake 1") ++ line (codes "2000 0 bad 0 110000001d000000010000000001010c00ff00ff0000005a5a00ff005a") ++ line (codes "4000 0 told 0 format 110000001d000000010000000001010c00ff00ff0000005a5a00ff005a") ++ line (codes "4000 0 told 0 wake") ++ line (codes "4000 0 told 2 wake") ++ line (codes "1307365 0 bad 1 110000001d000000ff0700000001000c005a5a5a5affff5a005a5a5a00") ++ line (codes "1309365 0 told 1 format 110000001d000000ff0700000001000c005a5a5a5affff5a005a5a5a00") ++ line (codes "3020226 0 bad 2 1100000012000000010100000001010100ff") ++ line (codes "3022226 0 told 2 format 1100000012000000010100000001010100ff") ++ line (codes "3059463 0 req 0 7ff#") ++ line (codes "3059463 0 start 0 7ff#") ++ line (codes "3095647 0 req 0 100#55ffffff00") ++ line (codes "3121463 0 fail 0 7ff# 1 0") ++ line (codes "3127463 0 start 0 100#55ffffff00") ++ line (codes "3189463 0 fail 0 100#55ffffff00 1 0") ++ line (codes "3195463 0 start 0 100#55ffffff00") ++ line (codes "3257463 0 fail 0 100#55ffffff00 1 0") ++ line (codes "3263463 0 start 0 100#55ffffff00") ++ line (codes "3325463 0 fail 0 100#55ffffff00 1 0") ++ line (codes "3331463 0 start 0 100#55ffffff00") ++ line (codes "3393463 0 fail 0 100#55ffffff00 1 0") ++ line (codes "3399463 0 start 0 100#55ffffff00") ++ line (codes "3461463 0 fail 0 100#55ffffff00 1 0") ++ line (codes "3467463 0 start 0 100#55ffffff00") ++ line (codes "3529463 0 fail 0 100#55ffffff00 1 0") ++ line (codes "3535463 0 start 0 100#55ffffff00") ++ line (codes "3597463 0 fail 0 100#55ffffff00 1 0") ++ line (codes "3603463 0 start 0 100#55ffffff00") ++ line (codes "3665463 0 fail 0 100#55ffffff00 1 0") ++ line (codes "3671463 0 start 0 100#55ffffff00") ++ line (codes "3733463 0 fail 0 100#55ffffff00 1 0") ++ line (codes "3739463 0 start 0 100#55ffffff00") ++ line (codes "3801463 0 fail 0 100#55ffffff00 1 0") ++ line (codes "3807463 0 start 0 100#55ffffff00") ++ line (codes "3869463 0 fail 0 100#55ffffff00 1 0") ++ line (codes "3875463 0 start 0 100#55ffffff00") ++ line (codes "3937463 0 fail 0 100#55ffffff00 1 0") ++ line (codes "3943463 0 start 0 100#55ffffff00") ++ line (codes "4005463 0 fail 0 100#55ffffff00 1 0") ++ line (codes "4011463 0 start 0 100#55ffffff00") ++ line (codes "4073463 0 fail 0 100#55ffffff00 1 0") ++ line (codes "4079463 0 start 0 100#55ffffff00") ++ line (codes "4141463 0 fail 0 100#55ffffff00 1 0") ++ line (codes "4141463 0 state 0 passive") ++ line (codes "4163463 0 start 0 100#55ffffff00") ++ line (codes "4225463 0 fail 0 100#55ffffff00 1 0") ++ line (codes "4247463 0 start 0 100#55ffffff00") ++ line (codes "4309463 0 fail 0 100#55ffffff00 1 0") ++ line (codes "4331463 0 start 0 100#55ffffff00") ++ line (codes "4393463 0 fail 0 100#55ffffff00 1 0") ++ line (codes "4415463 0 start 0 100#55ffffff00") ++ line (codes "4477463 0 fail 0 100#55ffffff00 1 0") ++ line (codes "4499463 0 start 0 100#55ffffff00") ++ line (codes "4561463 0 fail 0 100#55ffffff00 1 0") ++ line (codes "4583463 0 start 0 100#55ffffff00") ++ line (codes "4645463 0 fail 0 100#55ffffff00 1 0") ++ line (codes "4667463 0 start 0 100#55ffffff00") ++ line (codes "4729463 0 fail 0 100#55ffffff00 1 0") ++ line (codes "4751463 0 start 0 100#55ffffff00") ++ line (codes "4813463 0 fail 0 100#55ffffff00 1 0") ++ line (codes "4835463 0 start 0 100#55ffffff00") ++ line (codes "4897463 0 fail 0 100#55ffffff00 1 0") ++ line (codes "4919463 0 start 0 100#55ffffff00") ++ line (codes "4981463 0 fail 0 100#55ffffff00 1 0") ++ line (codes "5003463 0 start 0 100#55ffffff00") ++ line (codes "5065463 0 fail 0 100#55ffffff00 1 0") ++ line (codes "5087463 0 start 0 100#55ffffff00") ++ line (codes "5149463 0 fail 0 100#55ffffff00 1 0") ++ line (codes "5171463 0 start 0 100#55ffffff00") ++ line (codes "5233463 0 fail 0 100#55ffffff00 1 0") ++ line (codes "5255463 0 start 0 100#55ffffff00") ++ line (codes "5317463 0 fail 0 100#55ffffff00 1 0") ++ line (codes "5339463 0 start 0 100#55ffffff00") ++ line (codes "5401463 0 fail 0 100#55ffffff00 1 0") ++ line (codes "5423463 0 start 0 100#55ffffff00") ++ line (codes "5485463 0 fail 0 100#55ffffff00 1 0") ++ line (codes "5485463 0 state 0 off") ++ line (codes "end 0 73")
unfolding stuff stuff_open stuffed time_of duration beats winner course start finish recover submit submission_of take_inbox next_due next_event behind head line_text digits spell
run_101 = refl

pub run_105 : scenario_log 1000000 (record { setup = record { number = 0; rate = 500000; fd_rate = Some 2000000; nominal = 2000; data_bit_time = Some 500; errors = record { first = 1; count = 32; kind = 4; by = Some 1; bit = 5 } ∷ [] }; nodes = 0 ∷ 1 ∷ []; stop = 5600000; actions = record { moment = 0; node = 0; item = Op Wakeup } ∷ record { moment = 0; node = 0; item = Op (Configuration Discard) } ∷ record { moment = 0; node = 1; item = Op (FdTransmit (record { id = 66901436; ext = true; kind = Fd false true; bytes = 255 ∷ 0 ∷ 0 ∷ 90 ∷ 255 ∷ 0 ∷ 0 ∷ 255 ∷ 255 ∷ 90 ∷ 255 ∷ 255 ∷ 255 ∷ 0 ∷ 255 ∷ 255 ∷ 90 ∷ 0 ∷ 255 ∷ 90 ∷ [] })) } ∷ record { moment = 2000; node = 1; item = Op (Transmit (record { id = 154272; ext = true; kind = Data; bytes = 255 ∷ 0 ∷ 85 ∷ 0 ∷ 0 ∷ [] })) } ∷ record { moment = 2000; node = 0; item = Bad (78 ∷ []) } ∷ record { moment = 358660; node = 1; item = Op (Transmit (record { id = 67150507; ext = true; kind = Data; bytes = 85 ∷ 0 ∷ 255 ∷ 0 ∷ 255 ∷ 0 ∷ 255 ∷ 255 ∷ [] })) } ∷ record { moment = 2222071; node = 0; item = Op (FdTransmit (record { id = 255; ext = false; kind = Fd false false; bytes = 90 ∷ [] })) } ∷ record { moment = 2332882; node = 0; item = Op (Configuration Keep) } ∷ record { moment = 2613415; node = 1; item = Op (FdTransmit (record { id = 0; ext = false; kind = Fd false true; bytes = 255 ∷ 255 ∷ 0 ∷ 255 ∷ 90 ∷ 0 ∷ 0 ∷ 90 ∷ [] })) } ∷ record { moment = 2740848; node = 1; item = Op (FdTransmit (record { id = 257; ext = false; kind = Fd true true; bytes = [] })) } ∷ [] })
    ≡ line (codes "0 0 wake 0") ++ line (codes "0 0 discard 0") ++ line (codes "0 0 req 1 03fcd5bc##2ff00005aff0000ffff5affffff00ffff5a00ff5a") ++ line (codes "0 0 start 1 03fcd5bc##2ff00005aff0000ffff5affffff00ffff5a00ff5a") ++ line (codes "2000 0 told 1 wake") ++ line (codes "2000 0 req 1 00025aa0#ff00550000") ++ line (codes "2000 0 bad 0 4e") ++ line (codes "4000 0 told 0 format 4e") ++ line (codes "52000 0 fail 1 03fcd5bc##2ff00005aff0000ffff5affffff00ffff5a00ff5a 4 1") ++ line (codes "58000 0 start 1 00025aa0#ff00550000") ++ line (codes "110000 0 fail 1 00025aa0#ff00550000 4 1") ++ line (codes "116000 0 start 1 00025aa0#ff00550000") ++ line (codes "168000 0 fail 1 00025aa0#ff00550000 4 1") ++ line (codes "174000 0 start 1 00025aa0#ff00550000") ++ line (codes "226000 0 fail 1 00025aa0#ff00550000 4 1") ++ line (codes "232000 0 start 1 00025aa0#ff00550000") ++ line (codes "284000 0 fail 1 00025aa0#ff00550000 4 1") ++ line (codes "290000 0 start 1 00025aa0#ff00550000") ++ line (codes "342000 0 fail 1 00025aa0#ff00550000 4 1") ++ line (codes "348000 0 start 1 00025aa0#ff00550000") ++ line (codes "358660 0 req 1 0400a2ab#5500ff00ff00ffff") ++ line (codes "400000 0 fail 1 00025aa0#ff00550000 4 1") ++ line (codes "406000 0 start 1 00025aa0#ff00550000") ++ line (codes "458000 0 fail 1 00025aa0#ff00550000 4 1") ++ line (codes "464000 0 start 1 00025aa0#ff00550000") ++ line (codes "516000 0 fail 1 00025aa0#ff00550000 4 1") ++ line (codes "522000 0 start 1 00025aa0#ff00550000") ++ line (codes "574000 0 fail 1 00025aa0#ff00550000 4 1") ++ line (codes "580000 0 start 1 00025aa0#ff00550000") ++ line (codes "632000 0 fail 1 00025aa0#ff00550000 4 1") ++ line (codes "638000 0 start 1 00025aa0#ff00550000") ++ line (codes "690000 0 fail 1 00025aa0#ff00550000 4 1") ++ line (codes "696000 0 start 1 00025aa0#ff00550000") ++ line (codes "748000 0 fail 1 00025aa0#ff00550000 4 1") ++ line (codes "754000 0 start 1 00025aa0#ff00550000") ++ line (codes "806000 0 fail 1 00025aa0#ff00550000 4 1") ++ line (codes "812000 0 start 1 00025aa0#ff00550000") ++ line (codes "864000 0 fail 1 00025aa0#ff00550000 4 1") ++ line (codes "870000 0 start 1 00025aa0#ff00550000") ++ line (codes "922000 0 fail 1 00025aa0#ff00550000 4 1") ++ line (codes "922000 0 state 1 passive") ++ line (codes "944000 0 start 1 00025aa0#ff00550000") ++ line (codes "996000 0 fail 1 00025aa0#ff00550000 4 1") ++ line (codes "1018000 0 start 1 00025aa0#ff00550000") ++ line (codes "1070000 0 fail 1 00025aa0#ff00550000 4 1") ++ line (codes "1092000 0 start 1 00025aa0#ff00550000") ++ line (codes "1144000 0 fail 1 00025aa0#ff00550000 4 1") ++ line (codes "1166000 0 start 1 00025aa0#ff00550000") ++ line (codes "1218000 0 fail 1 00025aa0#ff00550000 4 1") ++ line (codes "1240000 0 start 1 00025aa0#ff00550000") ++ line (codes "1292000 0 fail 1 00025aa0#ff00550000 4 1") ++ line (codes "1314000 0 start 1 00025aa0#ff00550000") ++ line (codes "1366000 0 fail 1 00025aa0#ff00550000 4 1") ++ line (codes "1388000 0 start 1 00025aa0#ff00550000") ++ line (codes "1440000 0 fail 1 00025aa0#ff00550000 4 1") ++ line (codes "1462000 0 start 1 00025aa0#ff00550000") ++ line (codes "1514000 0 fail 1 00025aa0#ff00550000 4 1") ++ line (codes "1536000 0 start 1 00025aa0#ff00550000") ++ line (codes "1588000 0 fail 1 00025aa0#ff00550000 4 1") ++ line (codes "1610000 0 start 1 00025aa0#ff00550000") ++ line (codes "1662000 0 fail 1 00025aa0#ff00550000 4 1") ++ line (codes "1684000 0 start 1 00025aa0#ff00550000") ++ line (codes "1736000 0 fail 1 00025aa0#ff00550000 4 1") ++ line (codes "1758000 0 start 1 00025aa0#ff00550000") ++ line (codes "1810000 0 fail 1 00025aa0#ff00550000 4 1") ++ line (codes "1832000 0 start 1 00025aa0#ff00550000") ++ line (codes "1884000 0 fail 1 00025aa0#ff00550000 4 1") ++ line (codes "1906000 0 start 1 00025aa0#ff00550000") ++ line (codes "1958000 0 fail 1 00025aa0#ff00550000 4 1") ++ line (codes "1980000 0 start 1 00025aa0#ff00550000") ++ line (codes "2032000 0 fail 1 00025aa0#ff00550000 4 1") ++ line (codes "2054000 0 start 1 00025aa0#ff00550000") ++ line (codes "2106000 0 fail 1 00025aa0#ff00550000 4 1") ++ line (codes "2106000 0 state 1 off") ++ line (codes "2222071 0 req 0 0ff##05a") ++ line (codes "2222071 0 start 0 0ff##05a") ++ line (codes "2332882 0 keep 0") ++ line (codes "2384071 0 fail 0 0ff##05a 5 0") ++ line (codes "2390071 0 start 0 0ff##05a") ++ line (codes "2552071 0 fail 0 0ff##05a 5 0") ++ line (codes "2558071 0 start 0 0ff##05a") ++ line (codes "2613415 0 drop 1 000##2ffff00ff5a00005a") ++ line (codes "2720071 0 fail 0 0ff##05a 5 0") ++ line (codes "2726071 0 start 0 0ff##05a") ++ line (codes "2740848 0 drop 1 101##3") ++ line (codes "2888071 0 fail 0 0ff##05a 5 0") ++ line (codes "2894071 0 start 0 0ff##05a") ++ line (codes "3056071 0 fail 0 0ff##05a 5 0") ++ line (codes "3062071 0 start 0 0ff##05a") ++ line (codes "3224071 0 fail 0 0ff##05a 5 0") ++ line (codes "3230071 0 start 0 0ff##05a") ++ line (codes "3392071 0 fail 0 0ff##05a 5 0") ++ line (codes "3398071 0 start 0 0ff##05a") ++ line (codes "3560071 0 fail 0 0ff##05a 5 0") ++ line (codes "3566071 0 start 0 0ff##05a") ++ line (codes "3728071 0 fail 0 0ff##05a 5 0") ++ line (codes "3734071 0 start 0 0ff##05a") ++ line (codes "3896071 0 fail 0 0ff##05a 5 0") ++ line (codes "3902071 0 start 0 0ff##05a") ++ line (codes "4064071 0 fail 0 0ff##05a 5 0") ++ line (codes "4070071 0 start 0 0ff##05a") ++ line (codes "4232071 0 fail 0 0ff##05a 5 0") ++ line (codes "4238071 0 start 0 0ff##05a") ++ line (codes "4400071 0 fail 0 0ff##05a 5 0") ++ line (codes "4406071 0 start 0 0ff##05a") ++ line (codes "4568071 0 fail 0 0ff##05a 5 0") ++ line (codes "4574071 0 start 0 0ff##05a") ++ line (codes "4736071 0 fail 0 0ff##05a 5 0") ++ line (codes "4742071 0 start 0 0ff##05a") ++ line (codes "4904071 0 fail 0 0ff##05a 5 0") ++ line (codes "4904071 0 state 0 passive") ++ line (codes "4926071 0 start 0 0ff##05a") ++ line (codes "5088071 0 fail 0 0ff##05a 5 0") ++ line (codes "5110071 0 start 0 0ff##05a") ++ line (codes "5272071 0 fail 0 0ff##05a 5 0") ++ line (codes "5294071 0 start 0 0ff##05a") ++ line (codes "5456071 0 fail 0 0ff##05a 5 0") ++ line (codes "5478071 0 start 0 0ff##05a") ++ line (codes "end 0 111")
unfolding stuff stuff_open stuffed time_of duration beats winner course start finish recover submit submission_of take_inbox next_due next_event behind head line_text digits spell
run_105 = refl

pub run_106 : scenario_log 1000000 (record { setup = record { number = 0; rate = 500000; fd_rate = Some 2000000; nominal = 2000; data_bit_time = Some 500; errors = record { first = 1; count = 33; kind = 2; by = None; bit = 5 } ∷ [] }; nodes = 0 ∷ 1 ∷ 2 ∷ []; stop = 6000000; actions = record { moment = 0; node = 2; item = Op (Transmit (record { id = 0; ext = false; kind = Remote; bytes = [] })) } ∷ record { moment = 805810; node = 0; item = Op (Configuration Keep) } ∷ record { moment = 2047574; node = 0; item = Op (Configuration Discard) } ∷ record { moment = 2125814; node = 0; item = Op (Transmit (record { id = 0; ext = false; kind = Remote; bytes = [] })) } ∷ record { moment = 2233671; node = 2; item = Op (Transmit (record { id = 67108864; ext = true; kind = Data; bytes = 0 ∷ 255 ∷ 255 ∷ 0 ∷ 0 ∷ [] })) } ∷ record { moment = 2766940; node = 0; item = Op (Transmit (record { id = 67108864; ext = true; kind = Data; bytes = 0 ∷ 255 ∷ [] })) } ∷ [] })
    ≡ line (codes "0 0 req 2 000#R") ++ line (codes "0 0 start 2 000#R") ++ line (codes "52000 0 fail 2 000#R 2 2") ++ line (codes "58000 0 start 2 000#R") ++ line (codes "110000 0 fail 2 000#R 2 2") ++ line (codes "116000 0 start 2 000#R") ++ line (codes "168000 0 fail 2 000#R 2 2") ++ line (codes "174000 0 start 2 000#R") ++ line (codes "226000 0 fail 2 000#R 2 2") ++ line (codes "232000 0 start 2 000#R") ++ line (codes "284000 0 fail 2 000#R 2 2") ++ line (codes "290000 0 start 2 000#R") ++ line (codes "342000 0 fail 2 000#R 2 2") ++ line (codes "348000 0 start 2 000#R") ++ line (codes "400000 0 fail 2 000#R 2 2") ++ line (codes "406000 0 start 2 000#R") ++ line (codes "458000 0 fail 2 000#R 2 2") ++ line (codes "464000 0 start 2 000#R") ++ line (codes "516000 0 fail 2 000#R 2 2") ++ line (codes "522000 0 start 2 000#R") ++ line (codes "574000 0 fail 2 000#R 2 2") ++ line (codes "580000 0 start 2 000#R") ++ line (codes "632000 0 fail 2 000#R 2 2") ++ line (codes "638000 0 start 2 000#R") ++ line (codes "690000 0 fail 2 000#R 2 2") ++ line (codes "696000 0 start 2 000#R") ++ line (codes "748000 0 fail 2 000#R 2 2") ++ line (codes "754000 0 start 2 000#R") ++ line (codes "805810 0 keep 0") ++ line (codes "806000 0 fail 2 000#R 2 2") ++ line (codes "812000 0 start 2 000#R") ++ line (codes "864000 0 fail 2 000#R 2 2") ++ line (codes "870000 0 start 2 000#R") ++ line (codes "922000 0 fail 2 000#R 2 2") ++ line (codes "922000 0 state 2 passive") ++ line (codes "944000 0 start 2 000#R") ++ line (codes "996000 0 fail 2 000#R 2 2") ++ line (codes "1018000 0 start 2 000#R") ++ line (codes "1070000 0 fail 2 000#R 2 2") ++ line (codes "1092000 0 start 2 000#R") ++ line (codes "1144000 0 fail 2 000#R 2 2") ++ line (codes "1166000 0 start 2 000#R") ++ line (codes "1218000 0 fail 2 000#R 2 2") ++ line (codes "1240000 0 start 2 000#R") ++ line (codes "1292000 0 fail 2 000#R 2 2") ++ line (codes "1314000 0 start 2 000#R") ++ line (codes "1366000 0 fail 2 000#R 2 2") ++ line (codes "1388000 0 start 2 000#R") ++ line (codes "1440000 0 fail 2 000#R 2 2") ++ line (codes "1462000 0 start 2 000#R") ++ line (codes "1514000 0 fail 2 000#R 2 2") ++ line (codes "1536000 0 start 2 000#R") ++ line (codes "1588000 0 fail 2 000#R 2 2") ++ line (codes "1610000 0 start 2 000#R") ++ line (codes "1662000 0 fail 2 000#R 2 2") ++ line (codes "1684000 0 start 2 000#R") ++ line (codes "1736000 0 fail 2 000#R 2 2") ++ line (codes "1758000 0 start 2 000#R") ++ line (codes "1810000 0 fail 2 000#R 2 2") ++ line (codes "1832000 0 start 2 000#R") ++ line (codes "1884000 0 fail 2 000#R 2 2") ++ line (codes "1906000 0 start 2 000#R") ++ line (codes "1958000 0 fail 2 000#R 2 2") ++ line (codes "1980000 0 start 2 000#R") ++ line (codes "2032000 0 fail 2 000#R 2 2") ++ line (codes "2047574 0 discard 0") ++ line (codes "2054000 0 start 2 000#R") ++ line (codes "2106000 0 fail 2 000#R 2 2") ++ line (codes "2106000 0 state 2 off") ++ line (codes "2125814 0 req 0 000#R") ++ line (codes "2125814 0 start 0 000#R") ++ line (codes "2177814 0 fail 0 000#R 2 0") ++ line (codes "2183814 0 start 0 000#R") ++ line (codes "2233671 0 drop 2 04000000#00ffff0000") ++ line (codes "2277814 0 done 0 000#R to 1") ++ line (codes "2766940 0 req 0 04000000#00ff") ++ line (codes "2766940 0 start 0 04000000#00ff") ++ line (codes "2942940 0 done 0 04000000#00ff to 1") ++ line (codes "5236940 0 back 2") ++ line (codes "end 0 77")
unfolding stuff stuff_open stuffed time_of duration beats winner course start finish recover submit submission_of take_inbox next_due next_event behind head line_text digits spell
run_106 = refl

pub run_109 : scenario_log 1000000 (record { setup = record { number = 0; rate = 500000; fd_rate = Some 2000000; nominal = 2000; data_bit_time = Some 500; errors = record { first = 1; count = 32; kind = 2; by = Some 1; bit = 5 } ∷ record { first = 34; count = 3; kind = 2; by = Some 0; bit = 7 } ∷ [] }; nodes = 0 ∷ 1 ∷ 2 ∷ []; stop = 2600000; actions = record { moment = 0; node = 2; item = Op (Transmit (record { id = 257; ext = false; kind = Data; bytes = 0 ∷ [] })) } ∷ record { moment = 0; node = 0; item = Op (Configuration (FdRate 9)) } ∷ record { moment = 0; node = 2; item = Op (Transmit (record { id = 1; ext = false; kind = Data; bytes = 0 ∷ 0 ∷ 0 ∷ 255 ∷ 255 ∷ 255 ∷ 255 ∷ [] })) } ∷ record { moment = 2000; node = 1; item = Op (Transmit (record { id = 0; ext = false; kind = Data; bytes = 0 ∷ 85 ∷ 85 ∷ [] })) } ∷ record { moment = 711138; node = 1; item = Bad (165 ∷ []) } ∷ record { moment = 1511222; node = 0; item = Op (Transmit (record { id = 2047; ext = false; kind = Data; bytes = 255 ∷ 85 ∷ 85 ∷ 85 ∷ [] })) } ∷ record { moment = 1586284; node = 2; item = Op (FdTransmit (record { id = 1; ext = false; kind = Fd true true; bytes = 90 ∷ 255 ∷ 90 ∷ 255 ∷ 90 ∷ 0 ∷ 90 ∷ 0 ∷ 0 ∷ 0 ∷ 0 ∷ 0 ∷ 90 ∷ 255 ∷ 90 ∷ 0 ∷ 0 ∷ 90 ∷ 90 ∷ 255 ∷ [] })) } ∷ record { moment = 1784239; node = 2; item = Op (Transmit (record { id = 0; ext = false; kind = Data; bytes = 255 ∷ 85 ∷ 0 ∷ 85 ∷ 0 ∷ 0 ∷ 0 ∷ [] })) } ∷ record { moment = 2355001; node = 0; item = Op (Transmit (record { id = 1; ext = false; kind = Data; bytes = 0 ∷ 85 ∷ 85 ∷ [] })) } ∷ [] })
    ≡ line (codes "0 0 req 2 101#00") ++ line (codes "0 0 bad 0 400000000d0000000209000000") ++ line (codes "0 0 req 2 001#000000ffffffff") ++ line (codes "0 0 start 2 001#000000ffffffff") ++ line (codes "2000 0 told 0 format 400000000d0000000209000000") ++ line (codes "2000 0 req 1 000#005555") ++ line (codes "52000 0 fail 2 001#000000ffffffff 2 1") ++ line (codes "58000 0 start 1 000#005555") ++ line (codes "58000 0 lost 2 001#000000ffffffff keep") ++ line (codes "110000 0 fail 1 000#005555 2 1") ++ line (codes "116000 0 start 1 000#005555") ++ line (codes "116000 0 lost 2 001#000000ffffffff keep") ++ line (codes "168000 0 fail 1 000#005555 2 1") ++ line (codes "174000 0 start 1 000#005555") ++ line (codes "174000 0 lost 2 001#000000ffffffff keep") ++ line (codes "226000 0 fail 1 000#005555 2 1") ++ line (codes "232000 0 start 1 000#005555") ++ line (codes "232000 0 lost 2 001#000000ffffffff keep") ++ line (codes "284000 0 fail 1 000#005555 2 1") ++ line (codes "290000 0 start 1 000#005555") ++ line (codes "290000 0 lost 2 001#000000ffffffff keep") ++ line (codes "342000 0 fail 1 000#005555 2 1") ++ line (codes "348000 0 start 1 000#005555") ++ line (codes "348000 0 lost 2 001#000000ffffffff keep") ++ line (codes "400000 0 fail 1 000#005555 2 1") ++ line (codes "406000 0 start 1 000#005555") ++ line (codes "406000 0 lost 2 001#000000ffffffff keep") ++ line (codes "458000 0 fail 1 000#005555 2 1") ++ line (codes "464000 0 start 1 000#005555") ++ line (codes "464000 0 lost 2 001#000000ffffffff keep") ++ line (codes "516000 0 fail 1 000#005555 2 1") ++ line (codes "522000 0 start 1 000#005555") ++ line (codes "522000 0 lost 2 001#000000ffffffff keep") ++ line (codes "574000 0 fail 1 000#005555 2 1") ++ line (codes "580000 0 start 1 000#005555") ++ line (codes "580000 0 lost 2 001#000000ffffffff keep") ++ line (codes "632000 0 fail 1 000#005555 2 1") ++ line (codes "638000 0 start 1 000#005555") ++ line (codes "638000 0 lost 2 001#000000ffffffff keep") ++ line (codes "690000 0 fail 1 000#005555 2 1") ++ line (codes "696000 0 start 1 000#005555") ++ line (codes "696000 0 lost 2 001#000000ffffffff keep") ++ line (codes "711138 0 bad 1 a5") ++ line (codes "713138 0 told 1 format a5") ++ line (codes "748000 0 fail 1 000#005555 2 1") ++ line (codes "754000 0 start 1 000#005555") ++ line (codes "754000 0 lost 2 001#000000ffffffff keep") ++ line (codes "806000 0 fail 1 000#005555 2 1") ++ line (codes "812000 0 start 1 000#005555") ++ line (codes "812000 0 lost 2 001#000000ffffffff keep") ++ line (codes "864000 0 fail 1 000#005555 2 1") ++ line (codes "870000 0 start 1 000#005555") ++ line (codes "870000 0 lost 2 001#000000ffffffff keep") ++ line (codes "922000 0 fail 1 000#005555 2 1") ++ line (codes "928000 0 start 1 000#005555") ++ line (codes "928000 0 lost 2 001#000000ffffffff keep") ++ line (codes "980000 0 fail 1 000#005555 2 1") ++ line (codes "980000 0 state 1 passive") ++ line (codes "986000 0 start 2 001#000000ffffffff") ++ line (codes "1210000 0 done 2 001#000000ffffffff to 0") ++ line (codes "1210000 0 hurt 1 2") ++ line (codes "1216000 0 start 1 000#005555") ++ line (codes "1216000 0 lost 2 101#00 keep") ++ line (codes "1268000 0 fail 1 000#005555 2 1") ++ line (codes "1274000 0 start 2 101#00") ++ line (codes "1384000 0 done 2 101#00 to 0") ++ line (codes "1384000 0 hurt 1 2") ++ line (codes "1390000 0 start 1 000#005555") ++ line (codes "1442000 0 fail 1 000#005555 2 1") ++ line (codes "1464000 0 start 1 000#005555") ++ line (codes "1511222 0 req 0 7ff#ff555555") ++ line (codes "1516000 0 fail 1 000#005555 2 1") ++ line (codes "1522000 0 start 0 7ff#ff555555") ++ line (codes "1586284 0 req 2 001##35aff5aff5a005a00000000005aff5a00005a5aff") ++ line (codes "1680000 0 done 0 7ff#ff555555 to 2") ++ line (codes "1680000 0 hurt 1 2") ++ line (codes "1686000 0 start 1 000#005555") ++ line (codes "1686000 0 lost 2 001##35aff5aff5a005a00000000005aff5a00005a5aff keep") ++ line (codes "1738000 0 fail 1 000#005555 2 1") ++ line (codes "1744000 0 start 2 001##35aff5aff5a005a00000000005aff5a00005a5aff") ++ line (codes "1784239 0 req 2 000#ff550055000000") ++ line (codes "1909000 0 done 2 001##35aff5aff5a005a00000000005aff5a00005a5aff to 0") ++ line (codes "1909000 0 hurt 1 2") ++ line (codes "1915000 0 start 1 000#005555") ++ line (codes "1915000 0 lost 2 000#ff550055000000 keep") ++ line (codes "1967000 0 fail 1 000#005555 2 1") ++ line (codes "1973000 0 start 2 000#ff550055000000") ++ line (codes "2193000 0 done 2 000#ff550055000000 to 0") ++ line (codes "2193000 0 hurt 1 2") ++ line (codes "2199000 0 start 1 000#005555") ++ line (codes "2251000 0 fail 1 000#005555 2 1") ++ line (codes "2273000 0 start 1 000#005555") ++ line (codes "2325000 0 fail 1 000#005555 2 1") ++ line (codes "2347000 0 start 1 000#005555") ++ line (codes "2355001 0 req 0 001#005555") ++ line (codes "2399000 0 fail 1 000#005555 2 1") ++ line (codes "2405000 0 start 0 001#005555") ++ line (codes "2549000 0 done 0 001#005555 to 2") ++ line (codes "2549000 0 hurt 1 2") ++ line (codes "2555000 0 start 1 000#005555") ++ line (codes "end 0 71")
unfolding stuff stuff_open stuffed time_of duration beats winner course start finish recover submit submission_of take_inbox next_due next_event behind head line_text digits spell
run_109 = refl

pub run_110 : scenario_log 1000000 (record { setup = record { number = 0; rate = 500000; fd_rate = Some 2000000; nominal = 2000; data_bit_time = Some 500; errors = record { first = 1; count = 33; kind = 2; by = Some 1; bit = 5 } ∷ record { first = 34; count = 3; kind = 2; by = Some 0; bit = 7 } ∷ [] }; nodes = 0 ∷ 1 ∷ 2 ∷ []; stop = 2600000; actions = record { moment = 0; node = 2; item = Op (Transmit (record { id = 0; ext = false; kind = Remote; bytes = [] })) } ∷ record { moment = 0; node = 2; item = Op Wakeup } ∷ record { moment = 0; node = 0; item = Op Sleep } ∷ record { moment = 2000; node = 0; item = Op (Configuration Discard) } ∷ record { moment = 560599; node = 1; item = Op (Transmit (record { id = 257; ext = false; kind = Data; bytes = [] })) } ∷ record { moment = 632623; node = 2; item = Op Wakeup } ∷ record { moment = 1220125; node = 1; item = Op (Transmit (record { id = 256; ext = false; kind = Remote; bytes = [] })) } ∷ record { moment = 1559369; node = 1; item = Bad (198 ∷ 66 ∷ 203 ∷ 147 ∷ 88 ∷ 203 ∷ 201 ∷ 57 ∷ []) } ∷ record { moment = 1689980; node = 0; item = Op (Transmit (record { id = 256; ext = false; kind = Data; bytes = 85 ∷ 0 ∷ 85 ∷ 85 ∷ 85 ∷ 0 ∷ [] })) } ∷ record { moment = 3026056; node = 2; item = Op (Transmit (record { id = 67108864; ext = true; kind = Remote; bytes = [] })) } ∷ [] })
    ≡ line (codes "0 0 req 2 000#R") ++ line (codes "0 0 wake 2") ++ line (codes "0 0 sleep 0") ++ line (codes "0 0 start 2 000#R") ++ line (codes "2000 0 told 0 wake") ++ line (codes "2000 0 told 1 wake") ++ line (codes "2000 0 discard 0") ++ line (codes "52000 0 fail 2 000#R 2 1") ++ line (codes "58000 0 start 2 000#R") ++ line (codes "110000 0 fail 2 000#R 2 1") ++ line (codes "116000 0 start 2 000#R") ++ line (codes "168000 0 fail 2 000#R 2 1") ++ line (codes "174000 0 start 2 000#R") ++ line (codes "226000 0 fail 2 000#R 2 1") ++ line (codes "232000 0 start 2 000#R") ++ line (codes "284000 0 fail 2 000#R 2 1") ++ line (codes "290000 0 start 2 000#R") ++ line (codes "342000 0 fail 2 000#R 2 1") ++ line (codes "348000 0 start 2 000#R") ++ line (codes "400000 0 fail 2 000#R 2 1") ++ line (codes "406000 0 start 2 000#R") ++ line (codes "458000 0 fail 2 000#R 2 1") ++ line (codes "464000 0 start 2 000#R") ++ line (codes "516000 0 fail 2 000#R 2 1") ++ line (codes "522000 0 start 2 000#R") ++ line (codes "560599 0 req 1 101#") ++ line (codes "574000 0 fail 2 000#R 2 1") ++ line (codes "580000 0 start 2 000#R") ++ line (codes "580000 0 lost 1 101# keep") ++ line (codes "632000 0 fail 2 000#R 2 1") ++ line (codes "632623 0 wake 2") ++ line (codes "634623 0 told 0 wake") ++ line (codes "634623 0 told 1 wake") ++ line (codes "638000 0 start 2 000#R") ++ line (codes "638000 0 lost 1 101# keep") ++ line (codes "690000 0 fail 2 000#R 2 1") ++ line (codes "696000 0 start 2 000#R") ++ line (codes "696000 0 lost 1 101# keep") ++ line (codes "748000 0 fail 2 000#R 2 1") ++ line (codes "754000 0 start 2 000#R") ++ line (codes "754000 0 lost 1 101# keep") ++ line (codes "806000 0 fail 2 000#R 2 1") ++ line (codes "812000 0 start 2 000#R") ++ line (codes "812000 0 lost 1 101# keep") ++ line (codes "864000 0 fail 2 000#R 2 1") ++ line (codes "870000 0 start 2 000#R") ++ line (codes "870000 0 lost 1 101# keep") ++ line (codes "922000 0 fail 2 000#R 2 1") ++ line (codes "922000 0 state 1 passive") ++ line (codes "922000 0 state 2 passive") ++ line (codes "928000 0 start 1 101#") ++ line (codes "980000 0 fail 1 101# 2 1") ++ line (codes "986000 0 start 2 000#R") ++ line (codes "1080000 0 done 2 000#R to 0") ++ line (codes "1080000 0 hurt 1 2") ++ line (codes "1080000 0 state 2 active") ++ line (codes "1086000 0 start 1 101#") ++ line (codes "1138000 0 fail 1 101# 2 1") ++ line (codes "1160000 0 start 1 101#") ++ line (codes "1212000 0 fail 1 101# 2 1") ++ line (codes "1220125 0 req 1 100#R") ++ line (codes "1234000 0 start 1 100#R") ++ line (codes "1286000 0 fail 1 100#R 2 1") ++ line (codes "1308000 0 start 1 100#R") ++ line (codes "1360000 0 fail 1 100#R 2 1") ++ line (codes "1382000 0 start 1 100#R") ++ line (codes "1434000 0 fail 1 100#R 2 1") ++ line (codes "1456000 0 start 1 100#R") ++ line (codes "1508000 0 fail 1 100#R 2 1") ++ line (codes "1530000 0 start 1 100#R") ++ line (codes "1559369 0 bad 1 c642cb9358cbc939") ++ line (codes "1561369 0 told 1 format c642cb9358cbc939") ++ line (codes "1582000 0 fail 1 100#R 2 1") ++ line (codes "1604000 0 start 1 100#R") ++ line (codes "1656000 0 fail 1 100#R 2 1") ++ line (codes "1678000 0 start 1 100#R") ++ line (codes "1689980 0 req 0 100#550055555500") ++ line (codes "1730000 0 fail 1 100#R 2 1") ++ line (codes "1736000 0 start 0 100#550055555500") ++ line (codes "1928000 0 done 0 100#550055555500 to 2") ++ line (codes "1928000 0 hurt 1 2") ++ line (codes "1934000 0 start 1 100#R") ++ line (codes "1986000 0 fail 1 100#R 2 1") ++ line (codes "2008000 0 start 1 100#R") ++ line (codes "2060000 0 fail 1 100#R 2 1") ++ line (codes "2082000 0 start 1 100#R") ++ line (codes "2134000 0 fail 1 100#R 2 1") ++ line (codes "2156000 0 start 1 100#R") ++ line (codes "2208000 0 fail 1 100#R 2 1") ++ line (codes "2230000 0 start 1 100#R") ++ line (codes "2282000 0 fail 1 100#R 2 1") ++ line (codes "2304000 0 start 1 100#R") ++ line (codes "2360000 0 fail 1 100#R 2 0") ++ line (codes "2382000 0 start 1 100#R") ++ line (codes "2438000 0 fail 1 100#R 2 0") ++ line (codes "2460000 0 start 1 100#R") ++ line (codes "2516000 0 fail 1 100#R 2 0") ++ line (codes "2538000 0 start 1 100#R") ++ line (codes "end 0 82")
unfolding stuff stuff_open stuffed time_of duration beats winner course start finish recover submit submission_of take_inbox next_due next_event behind head line_text digits spell
run_110 = refl

pub run_111 : scenario_log 1000000 (record { setup = record { number = 0; rate = 500000; fd_rate = Some 2000000; nominal = 2000; data_bit_time = Some 500; errors = record { first = 1; count = 33; kind = 1; by = None; bit = 5 } ∷ [] }; nodes = 0 ∷ 1 ∷ []; stop = 6000000; actions = record { moment = 0; node = 1; item = Op (Transmit (record { id = 0; ext = false; kind = Data; bytes = 85 ∷ 85 ∷ 0 ∷ 255 ∷ 0 ∷ [] })) } ∷ record { moment = 0; node = 1; item = Op Wakeup } ∷ record { moment = 0; node = 1; item = Op (Configuration Keep) } ∷ record { moment = 0; node = 1; item = Op (Status Passive) } ∷ record { moment = 2000; node = 1; item = Op (Transmit (record { id = 1; ext = false; kind = Data; bytes = [] })) } ∷ record { moment = 2000; node = 1; item = Op (Status Passive) } ∷ record { moment = 2000; node = 1; item = Bad (187 ∷ 50 ∷ 128 ∷ 242 ∷ 54 ∷ 5 ∷ 116 ∷ 22 ∷ []) } ∷ record { moment = 158587; node = 1; item = Op (Transmit (record { id = 255; ext = false; kind = Data; bytes = 0 ∷ 85 ∷ 0 ∷ [] })) } ∷ record { moment = 2145726; node = 1; item = Op Wakeup } ∷ record { moment = 2149662; node = 1; item = Op (Transmit (record { id = 257; ext = false; kind = Data; bytes = 0 ∷ 85 ∷ 0 ∷ 0 ∷ 85 ∷ 0 ∷ 255 ∷ [] })) } ∷ record { moment = 2283434; node = 0; item = Op (FdTransmit (record { id = 67112283; ext = true; kind = Fd false true; bytes = 90 ∷ [] })) } ∷ record { moment = 3492599; node = 1; item = Op (Transmit (record { id = 0; ext = true; kind = Data; bytes = 0 ∷ 85 ∷ 85 ∷ 85 ∷ 255 ∷ 255 ∷ [] })) } ∷ [] })
    ≡ line (codes "0 0 req 1 000#555500ff00") ++ line (codes "0 0 wake 1") ++ line (codes "0 0 keep 1") ++ line (codes "0 0 status 1 passive") ++ line (codes "0 0 start 1 000#555500ff00") ++ line (codes "2000 0 told 0 wake") ++ line (codes "2000 0 req 1 001#") ++ line (codes "2000 0 status 1 passive") ++ line (codes "2000 0 bad 1 bb3280f236057416") ++ line (codes "4000 0 told 1 format bb3280f236057416") ++ line (codes "52000 0 fail 1 000#555500ff00 1 1") ++ line (codes "58000 0 start 1 000#555500ff00") ++ line (codes "110000 0 fail 1 000#555500ff00 1 1") ++ line (codes "116000 0 start 1 000#555500ff00") ++ line (codes "158587 0 req 1 0ff#005500") ++ line (codes "168000 0 fail 1 000#555500ff00 1 1") ++ line (codes "174000 0 start 1 000#555500ff00") ++ line (codes "226000 0 fail 1 000#555500ff00 1 1") ++ line (codes "232000 0 start 1 000#555500ff00") ++ line (codes "284000 0 fail 1 000#555500ff00 1 1") ++ line (codes "290000 0 start 1 000#555500ff00") ++ line (codes "342000 0 fail 1 000#555500ff00 1 1") ++ line (codes "348000 0 start 1 000#555500ff00") ++ line (codes "400000 0 fail 1 000#555500ff00 1 1") ++ line (codes "406000 0 start 1 000#555500ff00") ++ line (codes "458000 0 fail 1 000#555500ff00 1 1") ++ line (codes "464000 0 start 1 000#555500ff00") ++ line (codes "516000 0 fail 1 000#555500ff00 1 1") ++ line (codes "522000 0 start 1 000#555500ff00") ++ line (codes "574000 0 fail 1 000#555500ff00 1 1") ++ line (codes "580000 0 start 1 000#555500ff00") ++ line (codes "632000 0 fail 1 000#555500ff00 1 1") ++ line (codes "638000 0 start 1 000#555500ff00") ++ line (codes "690000 0 fail 1 000#555500ff00 1 1") ++ line (codes "696000 0 start 1 000#555500ff00") ++ line (codes "748000 0 fail 1 000#555500ff00 1 1") ++ line (codes "754000 0 start 1 000#555500ff00") ++ line (codes "806000 0 fail 1 000#555500ff00 1 1") ++ line (codes "812000 0 start 1 000#555500ff00") ++ line (codes "864000 0 fail 1 000#555500ff00 1 1") ++ line (codes "870000 0 start 1 000#555500ff00") ++ line (codes "922000 0 fail 1 000#555500ff00 1 1") ++ line (codes "922000 0 state 1 passive") ++ line (codes "944000 0 start 1 000#555500ff00") ++ line (codes "996000 0 fail 1 000#555500ff00 1 1") ++ line (codes "1018000 0 start 1 000#555500ff00") ++ line (codes "1070000 0 fail 1 000#555500ff00 1 1") ++ line (codes "1092000 0 start 1 000#555500ff00") ++ line (codes "1144000 0 fail 1 000#555500ff00 1 1") ++ line (codes "1166000 0 start 1 000#555500ff00") ++ line (codes "1218000 0 fail 1 000#555500ff00 1 1") ++ line (codes "1240000 0 start 1 000#555500ff00") ++ line (codes "1292000 0 fail 1 000#555500ff00 1 1") ++ line (codes "1314000 0 start 1 000#555500ff00") ++ line (codes "1366000 0 fail 1 000#555500ff00 1 1") ++ line (codes "1388000 0 start 1 000#555500ff00") ++ line (codes "1440000 0 fail 1 000#555500ff00 1 1") ++ line (codes "1462000 0 start 1 000#555500ff00") ++ line (codes "1514000 0 fail 1 000#555500ff00 1 1") ++ line (codes "1536000 0 start 1 000#555500ff00") ++ line (codes "1588000 0 fail 1 000#555500ff00 1 1") ++ line (codes "1610000 0 start 1 000#555500ff00") ++ line (codes "1662000 0 fail 1 000#555500ff00 1 1") ++ line (codes "1684000 0 start 1 000#555500ff00") ++ line (codes "1736000 0 fail 1 000#555500ff00 1 1") ++ line (codes "1758000 0 start 1 000#555500ff00") ++ line (codes "1810000 0 fail 1 000#555500ff00 1 1") ++ line (codes "1832000 0 start 1 000#555500ff00") ++ line (codes "1884000 0 fail 1 000#555500ff00 1 1") ++ line (codes "1906000 0 start 1 000#555500ff00") ++ line (codes "1958000 0 fail 1 000#555500ff00 1 1") ++ line (codes "1980000 0 start 1 000#555500ff00") ++ line (codes "2032000 0 fail 1 000#555500ff00 1 1") ++ line (codes "2054000 0 start 1 000#555500ff00") ++ line (codes "2106000 0 fail 1 000#555500ff00 1 1") ++ line (codes "2106000 0 state 1 off") ++ line (codes "2145726 0 wake 1") ++ line (codes "2147726 0 told 0 wake") ++ line (codes "2149662 0 drop 1 101#005500005500ff") ++ line (codes "2283434 0 req 0 04000d5b##25a") ++ line (codes "2283434 0 start 0 04000d5b##25a") ++ line (codes "2335434 0 fail 0 04000d5b##25a 1 0") ++ line (codes "2341434 0 start 0 04000d5b##25a") ++ line (codes "2541434 0 fail 0 04000d5b##25a 5 0") ++ line (codes "2547434 0 start 0 04000d5b##25a") ++ line (codes "2747434 0 fail 0 04000d5b##25a 5 0") ++ line (codes "2753434 0 start 0 04000d5b##25a") ++ line (codes "2953434 0 fail 0 04000d5b##25a 5 0") ++ line (codes "2959434 0 start 0 04000d5b##25a") ++ line (codes "3159434 0 fail 0 04000d5b##25a 5 0") ++ line (codes "3165434 0 start 0 04000d5b##25a") ++ line (codes "3365434 0 fail 0 04000d5b##25a 5 0") ++ line (codes "3371434 0 start 0 04000d5b##25a") ++ line (codes "3492599 0 drop 1 00000000#00555555ffff") ++ line (codes "3571434 0 fail 0 04000d5b##25a 5 0") ++ line (codes "3577434 0 start 0 04000d5b##25a") ++ line (codes "3777434 0 fail 0 04000d5b##25a 5 0") ++ line (codes "3783434 0 start 0 04000d5b##25a") ++ line (codes "3983434 0 fail 0 04000d5b##25a 5 0") ++ line (codes "3989434 0 start 0 04000d5b##25a") ++ line (codes "4189434 0 fail 0 04000d5b##25a 5 0") ++ line (codes "4195434 0 start 0 04000d5b##25a") ++ line (codes "4395434 0 fail 0 04000d5b##25a 5 0") ++ line (codes "4401434 0 start 0 04000d5b##25a") ++ line (codes "4601434 0 fail 0 04000d5b##25a 5 0") ++ line (codes "4607434 0 start 0 04000d5b##25a") ++ line (codes "4807434 0 fail 0 04000d5b##25a 5 0") ++ line (codes "4813434 0 start 0 04000d5b##25a") ++ line (codes "5013434 0 fail 0 04000d5b##25a 5 0") ++ line (codes "5019434 0 start 0 04000d5b##25a") ++ line (codes "5219434 0 fail 0 04000d5b##25a 5 0") ++ line (codes "5225434 0 start 0 04000d5b##25a") ++ line (codes "5425434 0 fail 0 04000d5b##25a 5 0") ++ line (codes "5425434 0 state 0 passive") ++ line (codes "5447434 0 start 0 04000d5b##25a") ++ line (codes "5647434 0 fail 0 04000d5b##25a 5 0") ++ line (codes "5669434 0 start 0 04000d5b##25a") ++ line (codes "5869434 0 fail 0 04000d5b##25a 5 0") ++ line (codes "5891434 0 start 0 04000d5b##25a") ++ line (codes "end 0 110")
unfolding stuff stuff_open stuffed time_of duration beats winner course start finish recover submit submission_of take_inbox next_due next_event behind head line_text digits spell
run_111 = refl

pub run_115 : scenario_log 1000000 (record { setup = record { number = 0; rate = 500000; fd_rate = Some 2000000; nominal = 2000; data_bit_time = Some 500; errors = record { first = 1; count = 32; kind = 3; by = None; bit = 5 } ∷ [] }; nodes = 0 ∷ 1 ∷ 2 ∷ []; stop = 5600000; actions = record { moment = 225703; node = 2; item = Op (FormatError (20 ∷ 111 ∷ 100 ∷ 19 ∷ 146 ∷ 41 ∷ 64 ∷ 219 ∷ 34 ∷ 251 ∷ 149 ∷ 163 ∷ 100 ∷ 187 ∷ 172 ∷ 61 ∷ 20 ∷ 229 ∷ 91 ∷ 73 ∷ 9 ∷ 230 ∷ 17 ∷ 32 ∷ 173 ∷ 146 ∷ 120 ∷ 250 ∷ 61 ∷ 245 ∷ 251 ∷ 102 ∷ 63 ∷ 204 ∷ 238 ∷ 160 ∷ 48 ∷ 65 ∷ 245 ∷ 172 ∷ 229 ∷ 126 ∷ 215 ∷ 248 ∷ 83 ∷ 91 ∷ 211 ∷ 4 ∷ 215 ∷ 111 ∷ 218 ∷ 229 ∷ 245 ∷ 44 ∷ 95 ∷ 138 ∷ 1 ∷ 248 ∷ 21 ∷ 1 ∷ 250 ∷ 51 ∷ 27 ∷ 192 ∷ 204 ∷ 68 ∷ 205 ∷ 86 ∷ 195 ∷ 21 ∷ [])) } ∷ record { moment = 859647; node = 2; item = Op (Transmit (record { id = 0; ext = false; kind = Data; bytes = 85 ∷ 85 ∷ 255 ∷ 85 ∷ 85 ∷ [] })) } ∷ record { moment = 2022220; node = 0; item = Op Wakeup } ∷ record { moment = 2107713; node = 2; item = Op (FdTransmit (record { id = 257; ext = false; kind = Fd false false; bytes = 0 ∷ 255 ∷ 255 ∷ 90 ∷ 255 ∷ 90 ∷ 255 ∷ 255 ∷ 0 ∷ 0 ∷ 0 ∷ 90 ∷ 255 ∷ 0 ∷ 255 ∷ 0 ∷ 90 ∷ 255 ∷ 255 ∷ 0 ∷ [] })) } ∷ record { moment = 2925500; node = 2; item = Op (Transmit (record { id = 2047; ext = false; kind = Data; bytes = 255 ∷ 0 ∷ 85 ∷ 255 ∷ 0 ∷ 255 ∷ [] })) } ∷ record { moment = 3067711; node = 2; item = Op (Configuration (Rate 500000)) } ∷ [] })
    ≡ line (codes "225703 0 ferr 2 146f6413922940db22fb95a364bbac3d14e55b4909e61120ad9278fa3df5fb663fcceea03041f5ace57ed7f8535bd304d76fdae5f52c5f8a01f81501fa331bc0") ++ line (codes "859647 0 req 2 000#5555ff5555") ++ line (codes "859647 0 start 2 000#5555ff5555") ++ line (codes "911647 0 fail 2 000#5555ff5555 3 2") ++ line (codes "917647 0 start 2 000#5555ff5555") ++ line (codes "969647 0 fail 2 000#5555ff5555 3 2") ++ line (codes "975647 0 start 2 000#5555ff5555") ++ line (codes "1027647 0 fail 2 000#5555ff5555 3 2") ++ line (codes "1033647 0 start 2 000#5555ff5555") ++ line (codes "1085647 0 fail 2 000#5555ff5555 3 2") ++ line (codes "1091647 0 start 2 000#5555ff5555") ++ line (codes "1143647 0 fail 2 000#5555ff5555 3 2") ++ line (codes "1149647 0 start 2 000#5555ff5555") ++ line (codes "1201647 0 fail 2 000#5555ff5555 3 2") ++ line (codes "1207647 0 start 2 000#5555ff5555") ++ line (codes "1259647 0 fail 2 000#5555ff5555 3 2") ++ line (codes "1265647 0 start 2 000#5555ff5555") ++ line (codes "1317647 0 fail 2 000#5555ff5555 3 2") ++ line (codes "1323647 0 start 2 000#5555ff5555") ++ line (codes "1375647 0 fail 2 000#5555ff5555 3 2") ++ line (codes "1381647 0 start 2 000#5555ff5555") ++ line (codes "1433647 0 fail 2 000#5555ff5555 3 2") ++ line (codes "1439647 0 start 2 000#5555ff5555") ++ line (codes "1491647 0 fail 2 000#5555ff5555 3 2") ++ line (codes "1497647 0 start 2 000#5555ff5555") ++ line (codes "1549647 0 fail 2 000#5555ff5555 3 2") ++ line (codes "1555647 0 start 2 000#5555ff5555") ++ line (codes "1607647 0 fail 2 000#5555ff5555 3 2") ++ line (codes "1613647 0 start 2 000#5555ff5555") ++ line (codes "1665647 0 fail 2 000#5555ff5555 3 2") ++ line (codes "1671647 0 start 2 000#5555ff5555") ++ line (codes "1723647 0 fail 2 000#5555ff5555 3 2") ++ line (codes "1729647 0 start 2 000#5555ff5555") ++ line (codes "1781647 0 fail 2 000#5555ff5555 3 2") ++ line (codes "1781647 0 state 2 passive") ++ line (codes "1803647 0 start 2 000#5555ff5555") ++ line (codes "1855647 0 fail 2 000#5555ff5555 3 2") ++ line (codes "1877647 0 start 2 000#5555ff5555") ++ line (codes "1929647 0 fail 2 000#5555ff5555 3 2") ++ line (codes "1951647 0 start 2 000#5555ff5555") ++ line (codes "2003647 0 fail 2 000#5555ff5555 3 2") ++ line (codes "2022220 0 wake 0") ++ line (codes "2024220 0 told 1 wake") ++ line (codes "2024220 0 told 2 wake") ++ line (codes "2025647 0 start 2 000#5555ff5555") ++ line (codes "2077647 0 fail 2 000#5555ff5555 3 2") ++ line (codes "2099647 0 start 2 000#5555ff5555") ++ line (codes "2107713 0 req 2 101##000ffff5aff5affff0000005aff00ff005affff00") ++ line (codes "2151647 0 fail 2 000#5555ff5555 3 2") ++ line (codes "2173647 0 start 2 000#5555ff5555") ++ line (codes "2225647 0 fail 2 000#5555ff5555 3 2") ++ line (codes "2247647 0 start 2 000#5555ff5555") ++ line (codes "2299647 0 fail 2 000#5555ff5555 3 2") ++ line (codes "2321647 0 start 2 000#5555ff5555") ++ line (codes "2373647 0 fail 2 000#5555ff5555 3 2") ++ line (codes "2395647 0 start 2 000#5555ff5555") ++ line (codes "2447647 0 fail 2 000#5555ff5555 3 2") ++ line (codes "2469647 0 start 2 000#5555ff5555") ++ line (codes "2521647 0 fail 2 000#5555ff5555 3 2") ++ line (codes "2543647 0 start 2 000#5555ff5555") ++ line (codes "2595647 0 fail 2 000#5555ff5555 3 2") ++ line (codes "2617647 0 start 2 000#5555ff5555") ++ line (codes "2669647 0 fail 2 000#5555ff5555 3 2") ++ line (codes "2691647 0 start 2 000#5555ff5555") ++ line (codes "2743647 0 fail 2 000#5555ff5555 3 2") ++ line (codes "2765647 0 start 2 000#5555ff5555") ++ line (codes "2817647 0 fail 2 000#5555ff5555 3 2") ++ line (codes "2839647 0 start 2 000#5555ff5555") ++ line (codes "2891647 0 fail 2 000#5555ff5555 3 2") ++ line (codes "2913647 0 start 2 000#5555ff5555") ++ line (codes "2925500 0 req 2 7ff#ff0055ff00ff") ++ line (codes "2965647 0 fail 2 000#5555ff5555 3 2") ++ line (codes "2965647 0 state 2 off") ++ line (codes "3067711 0 rate 2 500000") ++ line (codes "end 0 71")
unfolding stuff stuff_open stuffed time_of duration beats winner course start finish recover submit submission_of take_inbox next_due next_event behind head line_text digits spell
run_115 = refl

pub run_119 : scenario_log 1000000 (record { setup = record { number = 0; rate = 500000; fd_rate = Some 2000000; nominal = 2000; data_bit_time = Some 500; errors = record { first = 1; count = 32; kind = 3; by = Some 1; bit = 5 } ∷ [] }; nodes = 0 ∷ 1 ∷ []; stop = 5600000; actions = record { moment = 0; node = 1; item = Bad (91 ∷ 55 ∷ 13 ∷ 138 ∷ 101 ∷ 102 ∷ 6 ∷ 166 ∷ []) } ∷ record { moment = 0; node = 1; item = Op (Transmit (record { id = 256; ext = false; kind = Data; bytes = 255 ∷ 255 ∷ 0 ∷ 0 ∷ 255 ∷ 85 ∷ [] })) } ∷ record { moment = 0; node = 1; item = Op (Transmit (record { id = 66886381; ext = true; kind = Remote; bytes = [] })) } ∷ record { moment = 0; node = 1; item = Op (Configuration Discard) } ∷ record { moment = 2000; node = 0; item = Op (Transmit (record { id = 2047; ext = false; kind = Data; bytes = 0 ∷ 255 ∷ 0 ∷ [] })) } ∷ record { moment = 2000; node = 0; item = Op (Transmit (record { id = 1; ext = false; kind = Data; bytes = 255 ∷ 0 ∷ 0 ∷ 255 ∷ 255 ∷ [] })) } ∷ record { moment = 2000; node = 1; item = Bad (154 ∷ []) } ∷ record { moment = 207371; node = 0; item = Op (Configuration (Rate 500000)) } ∷ record { moment = 1297105; node = 0; item = Op Wakeup } ∷ record { moment = 2135485; node = 1; item = Op (Transmit (record { id = 2047; ext = false; kind = Data; bytes = 255 ∷ 0 ∷ 255 ∷ 0 ∷ 255 ∷ 0 ∷ [] })) } ∷ record { moment = 2188562; node = 1; item = Op (Configuration Keep) } ∷ record { moment = 2576144; node = 1; item = Op (FdTransmit (record { id = 2047; ext = false; kind = Fd false false; bytes = [] })) } ∷ [] })
    ≡ line (codes "0 0 bad 1 5b370d8a656606a6") ++ line (codes "0 0 req 1 100#ffff0000ff55") ++ line (codes "0 0 req 1 03fc9aed#R") ++ line (codes "0 0 discard 1") ++ line (codes "0 0 start 1 03fc9aed#R") ++ line (codes "2000 0 told 1 format 5b370d8a656606a6") ++ line (codes "2000 0 req 0 7ff#00ff00") ++ line (codes "2000 0 req 0 001#ff0000ffff") ++ line (codes "2000 0 bad 1 9a") ++ line (codes "4000 0 told 1 format 9a") ++ line (codes "52000 0 fail 1 03fc9aed#R 3 1") ++ line (codes "58000 0 start 0 001#ff0000ffff") ++ line (codes "58000 0 lost 1 03fc9aed#R gone") ++ line (codes "60000 0 told 1 lost 03fc9aed") ++ line (codes "110000 0 fail 0 001#ff0000ffff 3 1") ++ line (codes "116000 0 start 0 001#ff0000ffff") ++ line (codes "116000 0 lost 1 100#ffff0000ff55 gone") ++ line (codes "118000 0 told 1 lost 00000100") ++ line (codes "168000 0 fail 0 001#ff0000ffff 3 1") ++ line (codes "174000 0 start 0 001#ff0000ffff") ++ line (codes "207371 0 rate 0 500000") ++ line (codes "226000 0 fail 0 001#ff0000ffff 3 1") ++ line (codes "232000 0 start 0 001#ff0000ffff") ++ line (codes "284000 0 fail 0 001#ff0000ffff 3 1") ++ line (codes "290000 0 start 0 001#ff0000ffff") ++ line (codes "342000 0 fail 0 001#ff0000ffff 3 1") ++ line (codes "348000 0 start 0 001#ff0000ffff") ++ line (codes "400000 0 fail 0 001#ff0000ffff 3 1") ++ line (codes "406000 0 start 0 001#ff0000ffff") ++ line (codes "458000 0 fail 0 001#ff0000ffff 3 1") ++ line (codes "464000 0 start 0 001#ff0000ffff") ++ line (codes "516000 0 fail 0 001#ff0000ffff 3 1") ++ line (codes "522000 0 start 0 001#ff0000ffff") ++ line (codes "574000 0 fail 0 001#ff0000ffff 3 1") ++ line (codes "580000 0 start 0 001#ff0000ffff") ++ line (codes "632000 0 fail 0 001#ff0000ffff 3 1") ++ line (codes "638000 0 start 0 001#ff0000ffff") ++ line (codes "690000 0 fail 0 001#ff0000ffff 3 1") ++ line (codes "696000 0 start 0 001#ff0000ffff") ++ line (codes "748000 0 fail 0 001#ff0000ffff 3 1") ++ line (codes "754000 0 start 0 001#ff0000ffff") ++ line (codes "806000 0 fail 0 001#ff0000ffff 3 1") ++ line (codes "812000 0 start 0 001#ff0000ffff") ++ line (codes "864000 0 fail 0 001#ff0000ffff 3 1") ++ line (codes "870000 0 start 0 001#ff0000ffff") ++ line (codes "922000 0 fail 0 001#ff0000ffff 3 1") ++ line (codes "928000 0 start 0 001#ff0000ffff") ++ line (codes "980000 0 fail 0 001#ff0000ffff 3 1") ++ line (codes "980000 0 state 0 passive") ++ line (codes "980000 0 state 1 passive") ++ line (codes "1002000 0 start 0 001#ff0000ffff") ++ line (codes "1212000 0 fail 0 001#ff0000ffff 5 0") ++ line (codes "1212000 0 hurt 1 3") ++ line (codes "1234000 0 start 0 001#ff0000ffff") ++ line (codes "1297105 0 wake 0") ++ line (codes "1299105 0 told 1 wake") ++ line (codes "1444000 0 fail 0 001#ff0000ffff 5 0") ++ line (codes "1444000 0 hurt 1 3") ++ line (codes "1466000 0 start 0 001#ff0000ffff") ++ line (codes "1676000 0 fail 0 001#ff0000ffff 5 0") ++ line (codes "1676000 0 hurt 1 3") ++ line (codes "1698000 0 start 0 001#ff0000ffff") ++ line (codes "1908000 0 fail 0 001#ff0000ffff 5 0") ++ line (codes "1908000 0 hurt 1 3") ++ line (codes "1930000 0 start 0 001#ff0000ffff") ++ line (codes "2135485 0 req 1 7ff#ff00ff00ff00") ++ line (codes "2140000 0 fail 0 001#ff0000ffff 5 0") ++ line (codes "2140000 0 hurt 1 3") ++ line (codes "2146000 0 start 1 7ff#ff00ff00ff00") ++ line (codes "2188562 0 keep 1") ++ line (codes "2198000 0 fail 1 7ff#ff00ff00ff00 3 1") ++ line (codes "2204000 0 start 0 001#ff0000ffff") ++ line (codes "2414000 0 fail 0 001#ff0000ffff 5 0") ++ line (codes "2414000 0 hurt 1 3") ++ line (codes "2420000 0 start 1 7ff#ff00ff00ff00") ++ line (codes "2472000 0 fail 1 7ff#ff00ff00ff00 3 1") ++ line (codes "2478000 0 start 0 001#ff0000ffff") ++ line (codes "2576144 0 req 1 7ff##0") ++ line (codes "2688000 0 fail 0 001#ff0000ffff 5 0") ++ line (codes "2688000 0 hurt 1 3") ++ line (codes "2694000 0 start 1 7ff#ff00ff00ff00") ++ line (codes "2746000 0 fail 1 7ff#ff00ff00ff00 3 1") ++ line (codes "2752000 0 start 0 001#ff0000ffff") ++ line (codes "2962000 0 fail 0 001#ff0000ffff 5 0") ++ line (codes "2962000 0 hurt 1 3") ++ line (codes "2968000 0 start 1 7ff#ff00ff00ff00") ++ line (codes "3020000 0 fail 1 7ff#ff00ff00ff00 3 1") ++ line (codes "3026000 0 start 0 001#ff0000ffff") ++ line (codes "3236000 0 fail 0 001#ff0000ffff 5 0") ++ line (codes "3236000 0 hurt 1 3") ++ line (codes "3242000 0 start 1 7ff#ff00ff00ff00") ++ line (codes "3294000 0 fail 1 7ff#ff00ff00ff00 3 1") ++ line (codes "3300000 0 start 0 001#ff0000ffff") ++ line (codes "3510000 0 fail 0 001#ff0000ffff 5 0") ++ line (codes "3510000 0 hurt 1 3") ++ line (codes "3516000 0 start 1 7ff#ff00ff00ff00") ++ line (codes "3716000 0 done 1 7ff#ff00ff00ff00 to 0") ++ line (codes "3722000 0 start 0 001#ff0000ffff") ++ line (codes "3908000 0 done 0 001#ff0000ffff to 1") ++ line (codes "3908000 0 state 0 active") ++ line (codes "3908000 0 state 1 active") ++ line (codes "3914000 0 start 0 7ff#00ff00") ++ line (codes "3914000 0 lost 1 7ff##0 keep") ++ line (codes "4064000 0 done 0 7ff#00ff00 to 1") ++ line (codes "4070000 0 start 1 7ff##0") ++ line (codes "4194000 0 done 1 7ff##0 to 0") ++ line (codes "end 0 83")
unfolding stuff stuff_open stuffed time_of duration beats winner course start finish recover submit submission_of take_inbox next_due next_event behind head line_text digits spell
run_119 = refl

pub run_120 : scenario_log 1000000 (record { setup = record { number = 0; rate = 500000; fd_rate = Some 2000000; nominal = 2000; data_bit_time = Some 500; errors = record { first = 1; count = 18; kind = 3; by = Some 1; bit = 10 } ∷ [] }; nodes = 0 ∷ 1 ∷ 2 ∷ 3 ∷ []; stop = 6000000; actions = record { moment = 0; node = 1; item = Op (Transmit (record { id = 255; ext = false; kind = Data; bytes = 255 ∷ 0 ∷ [] })) } ∷ record { moment = 0; node = 2; item = Op Wakeup } ∷ record { moment = 0; node = 3; item = Op (Transmit (record { id = 67433709; ext = true; kind = Remote; bytes = [] })) } ∷ record { moment = 200207; node = 3; item = Op (FormatError (247 ∷ 64 ∷ 183 ∷ 117 ∷ 33 ∷ 82 ∷ 73 ∷ 96 ∷ 81 ∷ 45 ∷ 24 ∷ 55 ∷ 24 ∷ 151 ∷ 123 ∷ 121 ∷ 179 ∷ 149 ∷ 46 ∷ 143 ∷ 96 ∷ 62 ∷ 168 ∷ 71 ∷ 138 ∷ 232 ∷ 59 ∷ 38 ∷ 204 ∷ 11 ∷ 39 ∷ 254 ∷ 202 ∷ 219 ∷ 115 ∷ 182 ∷ 240 ∷ 96 ∷ 139 ∷ 58 ∷ 189 ∷ 65 ∷ 107 ∷ 254 ∷ 86 ∷ 78 ∷ 95 ∷ 229 ∷ 65 ∷ 124 ∷ 54 ∷ 7 ∷ 81 ∷ 235 ∷ 203 ∷ 194 ∷ 166 ∷ 220 ∷ 143 ∷ 21 ∷ 62 ∷ 172 ∷ 190 ∷ 34 ∷ 68 ∷ 2 ∷ 192 ∷ 27 ∷ 64 ∷ 17 ∷ [])) } ∷ record { moment = 395761; node = 1; item = Op (Configuration (Rate 500000)) } ∷ record { moment = 1734233; node = 3; item = Op (Transmit (record { id = 0; ext = false; kind = Remote; bytes = [] })) } ∷ record { moment = 1855640; node = 0; item = Op (Status Passive) } ∷ record { moment = 2000539; node = 3; item = Op Sleep } ∷ record { moment = 2563903; node = 3; item = Op (Configuration (FdRate 2000000)) } ∷ [] })
    ≡ line (codes "0 0 req 1 0ff#ff00") ++ line (codes "0 0 wake 2") ++ line (codes "0 0 req 3 0404f4ed#R") ++ line (codes "0 0 start 1 0ff#ff00") ++ line (codes "0 0 lost 3 0404f4ed#R keep") ++ line (codes "2000 0 told 0 wake") ++ line (codes "2000 0 told 1 wake") ++ line (codes "2000 0 told 3 wake") ++ line (codes "62000 0 fail 1 0ff#ff00 3 1") ++ line (codes "68000 0 start 1 0ff#ff00") ++ line (codes "68000 0 lost 3 0404f4ed#R keep") ++ line (codes "130000 0 fail 1 0ff#ff00 3 1") ++ line (codes "136000 0 start 1 0ff#ff00") ++ line (codes "136000 0 lost 3 0404f4ed#R keep") ++ line (codes "198000 0 fail 1 0ff#ff00 3 1") ++ line (codes "200207 0 ferr 3 f740b77521524960512d183718977b79b3952e8f603ea8478ae83b26cc0b27fecadb73b6f0608b3abd416bfe564e5fe5417c360751ebcbc2a6dc8f153eacbe22") ++ line (codes "204000 0 start 1 0ff#ff00") ++ line (codes "204000 0 lost 3 0404f4ed#R keep") ++ line (codes "266000 0 fail 1 0ff#ff00 3 1") ++ line (codes "272000 0 start 1 0ff#ff00") ++ line (codes "272000 0 lost 3 0404f4ed#R keep") ++ line (codes "334000 0 fail 1 0ff#ff00 3 1") ++ line (codes "340000 0 start 1 0ff#ff00") ++ line (codes "340000 0 lost 3 0404f4ed#R keep") ++ line (codes "395761 0 rate 1 500000") ++ line (codes "402000 0 fail 1 0ff#ff00 3 1") ++ line (codes "408000 0 start 1 0ff#ff00") ++ line (codes "408000 0 lost 3 0404f4ed#R keep") ++ line (codes "470000 0 fail 1 0ff#ff00 3 1") ++ line (codes "476000 0 start 1 0ff#ff00") ++ line (codes "476000 0 lost 3 0404f4ed#R keep") ++ line (codes "538000 0 fail 1 0ff#ff00 3 1") ++ line (codes "544000 0 start 1 0ff#ff00") ++ line (codes "544000 0 lost 3 0404f4ed#R keep") ++ line (codes "606000 0 fail 1 0ff#ff00 3 1") ++ line (codes "612000 0 start 1 0ff#ff00") ++ line (codes "612000 0 lost 3 0404f4ed#R keep") ++ line (codes "674000 0 fail 1 0ff#ff00 3 1") ++ line (codes "680000 0 start 1 0ff#ff00") ++ line (codes "680000 0 lost 3 0404f4ed#R keep") ++ line (codes "742000 0 fail 1 0ff#ff00 3 1") ++ line (codes "748000 0 start 1 0ff#ff00") ++ line (codes "748000 0 lost 3 0404f4ed#R keep") ++ line (codes "810000 0 fail 1 0ff#ff00 3 1") ++ line (codes "816000 0 start 1 0ff#ff00") ++ line (codes "816000 0 lost 3 0404f4ed#R keep") ++ line (codes "878000 0 fail 1 0ff#ff00 3 1") ++ line (codes "884000 0 start 1 0ff#ff00") ++ line (codes "884000 0 lost 3 0404f4ed#R keep") ++ line (codes "946000 0 fail 1 0ff#ff00 3 1") ++ line (codes "952000 0 start 1 0ff#ff00") ++ line (codes "952000 0 lost 3 0404f4ed#R keep") ++ line (codes "1014000 0 fail 1 0ff#ff00 3 1") ++ line (codes "1020000 0 start 1 0ff#ff00") ++ line (codes "1020000 0 lost 3 0404f4ed#R keep") ++ line (codes "1082000 0 fail 1 0ff#ff00 3 1") ++ line (codes "1082000 0 state 1 passive") ++ line (codes "1088000 0 start 3 0404f4ed#R") ++ line (codes "1222000 0 done 3 0404f4ed#R to 0,2") ++ line (codes "1222000 0 hurt 1 3") ++ line (codes "1228000 0 start 1 0ff#ff00") ++ line (codes "1290000 0 fail 1 0ff#ff00 3 1") ++ line (codes "1312000 0 start 1 0ff#ff00") ++ line (codes "1440000 0 done 1 0ff#ff00 to 0,2,3") ++ line (codes "1734233 0 req 3 000#R") ++ line (codes "1734233 0 start 3 000#R") ++ line (codes "1828233 0 done 3 000#R to 0,1,2") ++ line (codes "1855640 0 status 0 passive") ++ line (codes "2000539 0 sleep 3") ++ line (codes "2563903 0 fdrate 3 2000000") ++ line (codes "end 0 48")
unfolding stuff stuff_open stuffed time_of duration beats winner course start finish recover submit submission_of take_inbox next_due next_event behind head line_text digits spell
run_120 = refl

pub run_123 : scenario_log 1000000 (record { setup = record { number = 0; rate = 500000; fd_rate = Some 2000000; nominal = 2000; data_bit_time = Some 500; errors = record { first = 1; count = 18; kind = 2; by = Some 1; bit = 10 } ∷ [] }; nodes = 0 ∷ 1 ∷ 2 ∷ []; stop = 6000000; actions = record { moment = 0; node = 1; item = Op Wakeup } ∷ record { moment = 0; node = 0; item = Op (Transmit (record { id = 2047; ext = false; kind = Data; bytes = 85 ∷ [] })) } ∷ record { moment = 0; node = 1; item = Op (Configuration (Rate 1)) } ∷ record { moment = 2000; node = 1; item = Op (FdTransmit (record { id = 256; ext = false; kind = Fd true true; bytes = 255 ∷ 255 ∷ 255 ∷ 90 ∷ 0 ∷ 0 ∷ 90 ∷ 0 ∷ 90 ∷ 0 ∷ 0 ∷ 255 ∷ 90 ∷ 0 ∷ 0 ∷ 255 ∷ 90 ∷ 0 ∷ 0 ∷ 255 ∷ [] })) } ∷ record { moment = 2000; node = 1; item = Op (FdTransmit (record { id = 2047; ext = false; kind = Fd false false; bytes = [] })) } ∷ record { moment = 773398; node = 2; item = Bad (213 ∷ 221 ∷ 0 ∷ 29 ∷ 84 ∷ 1 ∷ 210 ∷ 182 ∷ 187 ∷ 91 ∷ 173 ∷ 146 ∷ 79 ∷ 182 ∷ 190 ∷ 103 ∷ 201 ∷ 8 ∷ 98 ∷ 29 ∷ 183 ∷ 163 ∷ 45 ∷ 18 ∷ 191 ∷ 199 ∷ 249 ∷ 126 ∷ 168 ∷ 204 ∷ 11 ∷ 15 ∷ 198 ∷ 66 ∷ 58 ∷ 134 ∷ 146 ∷ 196 ∷ 9 ∷ 194 ∷ 160 ∷ 129 ∷ 5 ∷ 97 ∷ 106 ∷ 3 ∷ 26 ∷ 21 ∷ 71 ∷ 184 ∷ 146 ∷ 58 ∷ 244 ∷ 82 ∷ 70 ∷ 118 ∷ 36 ∷ 146 ∷ 12 ∷ 165 ∷ 118 ∷ 217 ∷ 220 ∷ 42 ∷ 42 ∷ []) } ∷ record { moment = 1857426; node = 0; item = Op (FdTransmit (record { id = 2047; ext = false; kind = Fd false false; bytes = 0 ∷ 255 ∷ 255 ∷ 90 ∷ 90 ∷ 255 ∷ 255 ∷ 90 ∷ [] })) } ∷ record { moment = 2162550; node = 2; item = Op (Transmit (record { id = 536608768; ext = true; kind = Data; bytes = 255 ∷ 255 ∷ 255 ∷ [] })) } ∷ record { moment = 3048956; node = 0; item = Op (Configuration (FdRate 9)) } ∷ record { moment = 3436170; node = 2; item = Op Wakeup } ∷ [] })
    ≡ line (codes "0 0 wake 1") ++ line (codes "0 0 req 0 7ff#55") ++ line (codes "0 0 bad 1 400000000d0000000101000000") ++ line (codes "0 0 start 0 7ff#55") ++ line (codes "2000 0 told 0 wake") ++ line (codes "2000 0 told 1 format 400000000d0000000101000000") ++ line (codes "2000 0 told 2 wake") ++ line (codes "2000 0 req 1 100##3ffffff5a00005a005a0000ff5a0000ff5a0000ff") ++ line (codes "2000 0 req 1 7ff##0") ++ line (codes "62000 0 fail 0 7ff#55 2 1") ++ line (codes "68000 0 start 1 100##3ffffff5a00005a005a0000ff5a0000ff5a0000ff") ++ line (codes "68000 0 lost 0 7ff#55 keep") ++ line (codes "130000 0 fail 1 100##3ffffff5a00005a005a0000ff5a0000ff5a0000ff 2 1") ++ line (codes "136000 0 start 1 100##3ffffff5a00005a005a0000ff5a0000ff5a0000ff") ++ line (codes "136000 0 lost 0 7ff#55 keep") ++ line (codes "198000 0 fail 1 100##3ffffff5a00005a005a0000ff5a0000ff5a0000ff 2 1") ++ line (codes "204000 0 start 1 100##3ffffff5a00005a005a0000ff5a0000ff5a0000ff") ++ line (codes "204000 0 lost 0 7ff#55 keep") ++ line (codes "266000 0 fail 1 100##3ffffff5a00005a005a0000ff5a0000ff5a0000ff 2 1") ++ line (codes "272000 0 start 1 100##3ffffff5a00005a005a0000ff5a0000ff5a0000ff") ++ line (codes "272000 0 lost 0 7ff#55 keep") ++ line (codes "334000 0 fail 1 100##3ffffff5a00005a005a0000ff5a0000ff5a0000ff 2 1") ++ line (codes "340000 0 start 1 100##3ffffff5a00005a005a0000ff5a0000ff5a0000ff") ++ line (codes "340000 0 lost 0 7ff#55 keep") ++ line (codes "402000 0 fail 1 100##3ffffff5a00005a005a0000ff5a0000ff5a0000ff 2 1") ++ line (codes "408000 0 start 1 100##3ffffff5a00005a005a0000ff5a0000ff5a0000ff") ++ line (codes "408000 0 lost 0 7ff#55 keep") ++ line (codes "470000 0 fail 1 100##3ffffff5a00005a005a0000ff5a0000ff5a0000ff 2 1") ++ line (codes "476000 0 start 1 100##3ffffff5a00005a005a0000ff5a0000ff5a0000ff") ++ line (codes "476000 0 lost 0 7ff#55 keep") ++ line (codes "538000 0 fail 1 100##3ffffff5a00005a005a0000ff5a0000ff5a0000ff 2 1") ++ line (codes "544000 0 start 1 100##3ffffff5a00005a005a0000ff5a0000ff5a0000ff") ++ line (codes "544000 0 lost 0 7ff#55 keep") ++ line (codes "606000 0 fail 1 100##3ffffff5a00005a005a0000ff5a0000ff5a0000ff 2 1") ++ line (codes "612000 0 start 1 100##3ffffff5a00005a005a0000ff5a0000ff5a0000ff") ++ line (codes "612000 0 lost 0 7ff#55 keep") ++ line (codes "674000 0 fail 1 100##3ffffff5a00005a005a0000ff5a0000ff5a0000ff 2 1") ++ line (codes "680000 0 start 1 100##3ffffff5a00005a005a0000ff5a0000ff5a0000ff") ++ line (codes "680000 0 lost 0 7ff#55 keep") ++ line (codes "742000 0 fail 1 100##3ffffff5a00005a005a0000ff5a0000ff5a0000ff 2 1") ++ line (codes "748000 0 start 1 100##3ffffff5a00005a005a0000ff5a0000ff5a0000ff") ++ line (codes "748000 0 lost 0 7ff#55 keep") ++ line (codes "773398 0 bad 2 d5dd001d5401d2b6bb5bad924fb6be67c908621db7a32d12bfc7f97ea8cc0b0fc6423a8692c409c2a08105616a031a1547b8923af452467624920ca576d9dc2a") ++ line (codes "775398 0 told 2 format d5dd001d5401d2b6bb5bad924fb6be67c908621db7a32d12bfc7f97ea8cc0b0fc6423a8692c409c2a08105616a031a1547b8923af452467624920ca576d9dc2a") ++ line (codes "810000 0 fail 1 100##3ffffff5a00005a005a0000ff5a0000ff5a0000ff 2 1") ++ line (codes "816000 0 start 1 100##3ffffff5a00005a005a0000ff5a0000ff5a0000ff") ++ line (codes "816000 0 lost 0 7ff#55 keep") ++ line (codes "878000 0 fail 1 100##3ffffff5a00005a005a0000ff5a0000ff5a0000ff 2 1") ++ line (codes "884000 0 start 1 100##3ffffff5a00005a005a0000ff5a0000ff5a0000ff") ++ line (codes "884000 0 lost 0 7ff#55 keep") ++ line (codes "946000 0 fail 1 100##3ffffff5a00005a005a0000ff5a0000ff5a0000ff 2 1") ++ line (codes "952000 0 start 1 100##3ffffff5a00005a005a0000ff5a0000ff5a0000ff") ++ line (codes "952000 0 lost 0 7ff#55 keep") ++ line (codes "1014000 0 fail 1 100##3ffffff5a00005a005a0000ff5a0000ff5a0000ff 2 1") ++ line (codes "1020000 0 start 1 100##3ffffff5a00005a005a0000ff5a0000ff5a0000ff") ++ line (codes "1020000 0 lost 0 7ff#55 keep") ++ line (codes "1082000 0 fail 1 100##3ffffff5a00005a005a0000ff5a0000ff5a0000ff 2 1") ++ line (codes "1088000 0 start 1 100##3ffffff5a00005a005a0000ff5a0000ff5a0000ff") ++ line (codes "1088000 0 lost 0 7ff#55 keep") ++ line (codes "1150000 0 fail 1 100##3ffffff5a00005a005a0000ff5a0000ff5a0000ff 2 1") ++ line (codes "1150000 0 state 1 passive") ++ line (codes "1156000 0 start 0 7ff#55") ++ line (codes "1266000 0 done 0 7ff#55 to 2") ++ line (codes "1266000 0 hurt 1 2") ++ line (codes "1272000 0 start 1 100##3ffffff5a00005a005a0000ff5a0000ff5a0000ff") ++ line (codes "1439500 0 done 1 100##3ffffff5a00005a005a0000ff5a0000ff5a0000ff to 0,2") ++ line (codes "1439500 0 state 1 active") ++ line (codes "1445500 0 start 1 7ff##0") ++ line (codes "1569500 0 done 1 7ff##0 to 0,2") ++ line (codes "1857426 0 req 0 7ff##000ffff5a5affff5a") ++ line (codes "1857426 0 start 0 7ff##000ffff5a5affff5a") ++ line (codes "2123426 0 done 0 7ff##000ffff5a5affff5a to 1,2") ++ line (codes "2162550 0 req 2 1ffc0000#ffffff") ++ line (codes "2162550 0 start 2 1ffc0000#ffffff") ++ line (codes "2362550 0 done 2 1ffc0000#ffffff to 0,1") ++ line (codes "3048956 0 bad 0 400000000d0000000209000000") ++ line (codes "3050956 0 told 0 format 400000000d0000000209000000") ++ line (codes "3436170 0 wake 2") ++ line (codes "3438170 0 told 0 wake") ++ line (codes "3438170 0 told 1 wake") ++ line (codes "end 0 54")
unfolding stuff stuff_open stuffed time_of duration beats winner course start finish recover submit submission_of take_inbox next_due next_event behind head line_text digits spell
run_123 = refl
