-- short runs of two nodes
use Rattle.std.specs.Prelude.{◌≡◌, ℕ, false, List, [], ◌∷◌, ◌++◌, Some, codes, replicate, refl}
use Rattle.std.specs.Fmt.{digits}
use Rattle.frame_specs.specs.Frame.{Data, Remote, Fd}
use Rattle.frame_specs.specs.Wire.{stuff, stuff_open, stuffed, time_of, duration}
use Rattle.frame_specs.specs.Dominance.{beats}
use Rattle.operation_specs.specs.Operation.{Transmit, FdTransmit, Configuration, Rate, FdRate, Status, Passive, FormatError, Confirm}
use Rattle.operation_specs.specs.Spelling.{spell}
use Rattle.operation_specs.specs.Reading.{Op, Bad}
use Rattle.bus_specs.specs.Bus.{winner}
use Rattle.bus_specs.specs.Start.{course, start}
use Rattle.bus_specs.specs.Finish.{finish, recover}
use Rattle.bus_specs.specs.Submit.{submission_of, submit}
use Rattle.bus_specs.specs.Inbox.{take_inbox}
use Rattle.log_specs.specs.Line.{line_text}
use Rattle.bus_specs.specs.Due.{next_due}
use Rattle.run_specs.specs.Run.{behind, head}
use Rattle.play_specs.specs.Scenario.{Scenario, Action, next_event, scenario_log}

abbrev line : List ℕ → List ℕ
line text = text ++ 10 ∷ []

abbrev play : List Action → Scenario
play actions = record {
  setup = record { number = 0; rate = 500000; fd_rate = Some 2000000; nominal = 2000; data_bit_time = Some 500; errors = [] };
  nodes = 0 ∷ 1 ∷ [];
  stop = 1000000;
  actions = actions;
}

pub eight_zeros : scenario_log 1000000 (play (record { moment = 0; node = 0; item = Op (Transmit (record { id = 0x0; ext = false; kind = Data; bytes = replicate 8 0 })) } ∷ []))
    ≡ line (codes "0 0 req 0 000#0000000000000000")
    ++ line (codes "0 0 start 0 000#0000000000000000")
    ++ line (codes "248000 0 done 0 000#0000000000000000 to 1")
    ++ line (codes "end 0 3")
unfolding stuff stuff_open stuffed time_of duration beats winner course start finish recover submit submission_of take_inbox next_due next_event behind head line_text digits
eight_zeros = refl

pub lower_identifier_wins : scenario_log 1000000 (play (record { moment = 0; node = 0; item = Op (Transmit (record { id = 0x100; ext = false; kind = Data; bytes = [] })) } ∷ record { moment = 0; node = 1; item = Op (Transmit (record { id = 0xff; ext = false; kind = Data; bytes = [] })) } ∷ []))
    ≡ line (codes "0 0 req 0 100#")
    ++ line (codes "0 0 req 1 0ff#")
    ++ line (codes "0 0 start 1 0ff#")
    ++ line (codes "0 0 lost 0 100# keep")
    ++ line (codes "94000 0 done 1 0ff# to 0")
    ++ line (codes "100000 0 start 0 100#")
    ++ line (codes "196000 0 done 0 100# to 1")
    ++ line (codes "end 0 5")
unfolding stuff stuff_open stuffed time_of duration beats winner course start finish recover submit submission_of take_inbox next_due next_event behind head line_text digits
lower_identifier_wins = refl

pub data_beats_remote : scenario_log 1000000 (play (record { moment = 0; node = 0; item = Op (Transmit (record { id = 0x100; ext = false; kind = Remote; bytes = [] })) } ∷ record { moment = 0; node = 1; item = Op (Transmit (record { id = 0x100; ext = false; kind = Data; bytes = [] })) } ∷ []))
    ≡ line (codes "0 0 req 0 100#R")
    ++ line (codes "0 0 req 1 100#")
    ++ line (codes "0 0 start 1 100#")
    ++ line (codes "0 0 lost 0 100#R keep")
    ++ line (codes "96000 0 done 1 100# to 0")
    ++ line (codes "102000 0 start 0 100#R")
    ++ line (codes "194000 0 done 0 100#R to 1")
    ++ line (codes "end 0 5")
unfolding stuff stuff_open stuffed time_of duration beats winner course start finish recover submit submission_of take_inbox next_due next_event behind head line_text digits
data_beats_remote = refl

pub equal_frames_by_node : scenario_log 1000000 (play (record { moment = 0; node = 1; item = Op (Transmit (record { id = 0x100; ext = false; kind = Data; bytes = [] })) } ∷ record { moment = 0; node = 0; item = Op (Transmit (record { id = 0x100; ext = false; kind = Data; bytes = [] })) } ∷ []))
    ≡ line (codes "0 0 req 1 100#")
    ++ line (codes "0 0 req 0 100#")
    ++ line (codes "0 0 start 0 100#")
    ++ line (codes "0 0 lost 1 100# keep")
    ++ line (codes "96000 0 done 0 100# to 1")
    ++ line (codes "102000 0 start 1 100#")
    ++ line (codes "198000 0 done 1 100# to 0")
    ++ line (codes "end 0 5")
unfolding stuff stuff_open stuffed time_of duration beats winner course start finish recover submit submission_of take_inbox next_due next_event behind head line_text digits
equal_frames_by_node = refl

pub no_preemption : scenario_log 1000000 (play (record { moment = 0; node = 0; item = Op (Transmit (record { id = 0x100; ext = false; kind = Data; bytes = [] })) } ∷ record { moment = 1; node = 1; item = Op (Transmit (record { id = 0xff; ext = false; kind = Data; bytes = [] })) } ∷ []))
    ≡ line (codes "0 0 req 0 100#")
    ++ line (codes "0 0 start 0 100#")
    ++ line (codes "1 0 req 1 0ff#")
    ++ line (codes "96000 0 done 0 100# to 1")
    ++ line (codes "102000 0 start 1 0ff#")
    ++ line (codes "196000 0 done 1 0ff# to 0")
    ++ line (codes "end 0 6")
unfolding stuff stuff_open stuffed time_of duration beats winner course start finish recover submit submission_of take_inbox next_due next_event behind head line_text digits
no_preemption = refl

pub equal_bits_of_two_formats : scenario_log 1000000 (play (record { moment = 0; node = 1; item = Op (Transmit (record { id = 0x100; ext = false; kind = Data; bytes = [] })) } ∷ record { moment = 0; node = 0; item = Op (FdTransmit (record { id = 0x100; ext = false; kind = Fd false false; bytes = [] })) } ∷ []))
    ≡ line (codes "0 0 req 1 100#")
    ++ line (codes "0 0 req 0 100##0")
    ++ line (codes "0 0 start 0 100##0")
    ++ line (codes "0 0 lost 1 100# keep")
    ++ line (codes "124000 0 done 0 100##0 to 1")
    ++ line (codes "130000 0 start 1 100#")
    ++ line (codes "226000 0 done 1 100# to 0")
    ++ line (codes "end 0 5")
unfolding stuff stuff_open stuffed time_of duration beats winner course start finish recover submit submission_of take_inbox next_due next_event behind head line_text digits
equal_bits_of_two_formats = refl

pub operations_aside : scenario_log 1000000 (play (record { moment = 0; node = 0; item = Op (Configuration (Rate 500000)) } ∷ record { moment = 0; node = 0; item = Op (Configuration (Rate 125000)) } ∷ record { moment = 0; node = 0; item = Op (Configuration (FdRate 2000000)) } ∷ record { moment = 0; node = 1; item = Op (Status Passive) } ∷ record { moment = 0; node = 1; item = Op (FormatError []) } ∷ record { moment = 0; node = 1; item = Bad (replicate 65 7) } ∷ record { moment = 5; node = 1; item = Op (Confirm 1) } ∷ record { moment = 2001; node = 1; item = Op (Confirm 2) } ∷ []))
    ≡ line (codes "0 0 rate 0 500000")
    ++ line (codes "0 0 bad 0 400000000d0000000148e80100")
    ++ line (codes "0 0 fdrate 0 2000000")
    ++ line (codes "0 0 status 1 passive")
    ++ line (codes "0 0 ferr 1 -")
    ++ line (codes "0 0 bad 1 07070707070707070707070707070707070707070707070707070707070707070707070707070707070707070707070707070707070707070707070707070707")
    ++ line (codes "5 0 bad 1 200000000c00000001000000")
    ++ line (codes "2000 0 told 0 format 400000000d0000000148e80100")
    ++ line (codes "2000 0 told 1 format 07070707070707070707070707070707070707070707070707070707070707070707070707070707070707070707070707070707070707070707070707070707")
    ++ line (codes "2001 0 bad 1 200000000c00000002000000")
    ++ line (codes "4001 0 told 1 format 200000000c00000002000000")
    ++ line (codes "end 0 5")
unfolding stuff stuff_open stuffed time_of duration beats winner course start finish recover submit submission_of take_inbox next_due next_event behind head line_text digits spell
operations_aside = refl
