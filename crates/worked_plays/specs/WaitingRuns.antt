-- What waits by the lines so far is what the bus has, behind each number of events.
use Rattle.std.specs.Prelude.{◌≡◌, ℕ, true, false, List, [], ◌∷◌, Some, None, Bool, ◌&&◌, refl}
use Rattle.std.specs.List.{list_all}
use Rattle.frame_specs.specs.Frame.{Data}
use Rattle.frame_specs.specs.Wire.{stuff, stuff_open, stuffed, time_of, duration}
use Rattle.frame_specs.specs.Dominance.{beats}
use Rattle.operation_specs.specs.Operation.{Transmit, Configuration, Discard, Wakeup, Sleep}
use Rattle.operation_specs.specs.Reading.{Op}
use Rattle.bus_specs.specs.Bus.{winner}
use Rattle.bus_specs.specs.Start.{course, start}
use Rattle.bus_specs.specs.Finish.{finish, recover}
use Rattle.bus_specs.specs.Submit.{submission_of, submit}
use Rattle.bus_specs.specs.Inbox.{take_inbox}
use Rattle.bus_specs.specs.Due.{next_due}
use Rattle.run_specs.specs.Run.{behind, head}
use Rattle.play_specs.specs.Scenario.{Scenario, next_event, machine, opening}
use Rattle.bus_specs.specs.Waits.{Waiting, waiting_by_log, waiting_of, is_meant}

abbrev read : Scenario → ℕ → List Waiting
read p k = waiting_by_log 0 (head (machine p.stop) k (opening p))

abbrev held : Scenario → ℕ → List Waiting
held p k = waiting_of (behind (machine p.stop) k (opening p)).bus.requests

abbrev same : List Waiting → List Waiting → Bool
same [] [] = true
same [] (w ∷ ws) = false
same (v ∷ vs) [] = false
same (v ∷ vs) (w ∷ ws) = is_meant w.node w.frame v && same vs ws

abbrev agrees : Scenario → ℕ → Bool
agrees p k = same (read p k) (held p k)

abbrev discarded_play : Scenario
discarded_play = record {
  setup = record { number = 0; nominal = 2000; data_bit_time = Some 500; rate = 500000; fd_rate = Some 2000000; errors = [] };
  nodes = 0 ∷ 1 ∷ [];
  stop = 1000000;
  actions = record { moment = 0; node = 0; item = Op (Configuration Discard) }
      ∷ record { moment = 0; node = 0; item = Op (Transmit (record { id = 0x100; ext = false; kind = Data; bytes = [] })) }
      ∷ record { moment = 0; node = 0; item = Op (Transmit (record { id = 0x101; ext = false; kind = Data; bytes = [] })) }
      ∷ record { moment = 0; node = 1; item = Op (Transmit (record { id = 0xff; ext = false; kind = Data; bytes = [] })) }
      ∷ [];
}

pub discarded : list_all (agrees discarded_play) (0 ∷ 1 ∷ 2 ∷ 3 ∷ 4 ∷ 5 ∷ 6 ∷ []) ≡ true
unfolding stuff stuff_open stuffed time_of duration beats winner course start finish recover submit submission_of take_inbox next_due next_event behind head
discarded = refl

abbrev off_play : Scenario
off_play = record {
  setup = record { number = 0; nominal = 2000; data_bit_time = Some 500; rate = 500000; fd_rate = Some 2000000; errors = record { first = 1; count = 32; kind = 1; by = None; bit = 10 } ∷ [] };
  nodes = 0 ∷ 1 ∷ 2 ∷ [];
  stop = 6000000;
  actions = record { moment = 0; node = 0; item = Op (Transmit (record { id = 0x0; ext = false; kind = Data; bytes = [] })) }
      ∷ record { moment = 3000000; node = 1; item = Op (Transmit (record { id = 0x0; ext = false; kind = Data; bytes = [] })) }
      ∷ [];
}

pub off : list_all (agrees off_play) (0 ∷ 1 ∷ 2 ∷ 40 ∷ 62 ∷ 63 ∷ 64 ∷ 65 ∷ 66 ∷ 67 ∷ 68 ∷ 69 ∷ []) ≡ true
unfolding stuff stuff_open stuffed time_of duration beats winner course start finish recover submit submission_of take_inbox next_due next_event behind head
off = refl

abbrev hurt_play : Scenario
hurt_play = record {
  setup = record { number = 0; nominal = 2000; data_bit_time = Some 500; rate = 500000; fd_rate = Some 2000000; errors = record { first = 1; count = 17; kind = 1; by = Some 1; bit = 10 } ∷ [] };
  nodes = 0 ∷ 1 ∷ 2 ∷ [];
  stop = 2000000;
  actions = record { moment = 0; node = 0; item = Op (Transmit (record { id = 0x0; ext = false; kind = Data; bytes = [] })) }
      ∷ [];
}

pub hurt : list_all (agrees hurt_play) (1 ∷ 2 ∷ 3 ∷ 20 ∷ 35 ∷ []) ≡ true
unfolding stuff stuff_open stuffed time_of duration beats winner course start finish recover submit submission_of take_inbox next_due next_event behind head
hurt = refl

abbrev asleep_play : Scenario
asleep_play = record {
  setup = record { number = 0; nominal = 2000; data_bit_time = Some 500; rate = 500000; fd_rate = Some 2000000; errors = [] };
  nodes = 0 ∷ 1 ∷ 2 ∷ [];
  stop = 1000000;
  actions = record { moment = 0; node = 2; item = Op Sleep }
      ∷ record { moment = 0; node = 0; item = Op (Transmit (record { id = 0x0; ext = false; kind = Data; bytes = [] })) }
      ∷ record { moment = 100000; node = 1; item = Op Wakeup }
      ∷ record { moment = 110000; node = 0; item = Op (Transmit (record { id = 0x0; ext = false; kind = Data; bytes = [] })) }
      ∷ [];
}

pub asleep : list_all (agrees asleep_play) (0 ∷ 1 ∷ 2 ∷ 3 ∷ 4 ∷ 5 ∷ 6 ∷ 7 ∷ 8 ∷ []) ≡ true
unfolding stuff stuff_open stuffed time_of duration beats winner course start finish recover submit submission_of take_inbox next_due next_event behind head
asleep = refl
