-- Worked plays, computed: their texts, and the scenarios that come of them.
use Rattle.std.specs.Prelude.{◌≡◌, ℕ, true, false, List, [], ◌∷◌, ◌++◌, Some, None, codes, refl}
use Rattle.std.specs.Fmt.{digits}
use Rattle.frame_specs.specs.Frame.{Data, Fd}
use Rattle.operation_specs.specs.Operation as op
use Rattle.operation_specs.specs.Reading.{Op}
use Rattle.play_specs.specs.Play.{Play, Send, Wake, Sleep, Keep, Discard, scenario_of}
use Rattle.play_specs.specs.PlayText.{play_text, text_lines}

abbrev line : List ℕ → List ℕ
line text = text ++ 10 ∷ []

-- no line but the header, and no FD
header_alone : play_text (record { resolution = 1000000000; rate = 500000; fd_rate = None; nodes = 1; stop = 1000000; errors = []; actions = [] })
    ≡ line (codes "play 1000000000 500000 0 1 1000000")
unfolding text_lines digits
header_alone = refl

-- each form of a line
abbrev pub each_form : Play
each_form = record {
  resolution = 1000000000;
  rate = 500000;
  fd_rate = Some 2000000;
  nodes = 3;
  stop = 4611686018427387904;
  errors = record { first = 1; count = 32; kind = 1; by = None; bit = 10 } ∷ record { first = 4294967296; count = 1; kind = 4; by = Some 2; bit = 1023 } ∷ [];
  actions = record { moment = 0; node = 0; verb = Send (record { id = 0; ext = false; kind = Data; bytes = [] }) }
      ∷ record { moment = 0; node = 2; verb = Send (record { id = 0x12345678; ext = true; kind = Fd true false; bytes = 0x11 ∷ 0x22 ∷ [] }) }
      ∷ record { moment = 7; node = 1; verb = Sleep }
      ∷ record { moment = 8; node = 1; verb = Wake }
      ∷ record { moment = 8; node = 0; verb = Discard }
      ∷ record { moment = 4611686018427387904; node = 0; verb = Keep }
      ∷ [];
}

each_form_written : play_text each_form ≡ line (codes "play 1000000000 500000 2000000 3 4611686018427387904")
    ++ line (codes "error 1 32 1 sender 10")
    ++ line (codes "error 4294967296 1 4 2 1023")
    ++ line (codes "0 0 send 000#")
    ++ line (codes "0 2 send 12345678##11122")
    ++ line (codes "7 1 sleep")
    ++ line (codes "8 1 wake")
    ++ line (codes "8 0 discard")
    ++ line (codes "4611686018427387904 0 keep")
unfolding text_lines digits
each_form_written = refl

-- an FD frame is sent by the operation for FD frames
each_form_played : scenario_of each_form ≡ record {
  setup = record { number = 0; rate = 500000; fd_rate = Some 2000000; nominal = 2000; data_bit_time = Some 500; errors = each_form.errors };
  nodes = 0 ∷ 1 ∷ 2 ∷ [];
  stop = 4611686018427387904;
  actions = record { moment = 0; node = 0; item = Op (op.Transmit (record { id = 0; ext = false; kind = Data; bytes = [] })) }
      ∷ record { moment = 0; node = 2; item = Op (op.FdTransmit (record { id = 0x12345678; ext = true; kind = Fd true false; bytes = 0x11 ∷ 0x22 ∷ [] })) }
      ∷ record { moment = 7; node = 1; item = Op op.Sleep }
      ∷ record { moment = 8; node = 1; item = Op op.Wakeup }
      ∷ record { moment = 8; node = 0; item = Op (op.Configuration op.Discard) }
      ∷ record { moment = 4611686018427387904; node = 0; item = Op (op.Configuration op.Keep) }
      ∷ [];
}
each_form_played = refl
