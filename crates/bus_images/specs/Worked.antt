-- Worked values: a bus of three nodes in mid-recovery, what is saved of it, and the bus that is made of that, each by computing.
use Rattle.std.specs.Prelude.{◌≡◌, true, false, [], ◌∷◌, map, None, Some, refl}
use Rattle.frame_specs.specs.Frame.{Frame, Data}
use Rattle.bus_specs.specs.Bus.{Setup, Bus, new_member, Received}
use Rattle.bus_images.specs.Images.{BusImage, MemberImage, bus_image, bus_from, live_nodes}

abbrev setup : Setup
setup = record { number = 1; rate = 500000; fd_rate = None; nominal = 2000; data_bit_time = None; errors = [] }

abbrev frame : Frame
frame = record { id = 0x123; ext = false; kind = Data; bytes = 1 ∷ 2 ∷ [] }

-- node 3 is off and has seen 5 occurrences, node 4 waits for a notice and has mail, node 7 isn't live
abbrev recovering : Bus
recovering = record {
  setup = setup;
  members =
      record (new_member 3) { live = true; counters = record { tec = 256; rec = 0 }; occurrences = Some 5 }
      ∷ record (new_member 4) { live = true; lost = Some (record { due = 900000; id = 0x123 }); mail = Some (Received frame) }
      ∷ new_member 7
      ∷ [];
  requests = record { node = 4; number = 40; frame = frame } ∷ [];
  next = 41;
  attempts = 38;
  idle = 806000;
  last_sender = Some 3;
  running = None;
}

-- what is saved of a node on which nothing has happened
abbrev calm : MemberImage
calm = record {
  awake = true;
  discards = false;
  counters = record { tec = 0; rec = 0 };
  occurrences = None;
  lost = None;
  format = None;
  wake = None;
  mail = None;
}

abbrev saved : BusImage
saved = record {
  attempts = 38;
  next = 41;
  idle = 806000;
  last_sender = Some 3;
  running = None;
  requests = record { node = 4; number = 40; frame = frame } ∷ [];
  members =
      record calm { counters = record { tec = 256; rec = 0 }; occurrences = Some 5 }
      ∷ record calm { lost = Some (record { due = 900000; id = 0x123 }); mail = Some (Received frame) }
      ∷ calm
      ∷ [];
}

saved_is : bus_image recovering ≡ saved
saved_is = refl

live_are : live_nodes recovering ≡ 3 ∷ 4 ∷ []
live_are = refl

made_again : bus_from setup (3 ∷ 4 ∷ 7 ∷ []) (3 ∷ 4 ∷ []) saved ≡ recovering
made_again = refl

-- with node 7 live and node 4 not, it is another bus
made_otherwise : map (λ m. m.live) (bus_from setup (3 ∷ 4 ∷ 7 ∷ []) (7 ∷ 3 ∷ []) saved).members ≡ true ∷ false ∷ true ∷ []
made_otherwise = refl
