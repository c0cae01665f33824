-- Worked values: what is saved of a network of two nodes as it opens and behind each of its first events, each by computing.
use Rattle.std.specs.Prelude.{◌≡◌, ℕ, ◌==◌, ◌&&◌, true, false, List, [], ◌∷◌, map, Option, Some, None, if◌then◌else◌, refl}
use Rattle.frame_specs.specs.Frame.{Frame, Data}
use Rattle.frame_specs.specs.Wire.{stuff, stuffed, time_of, duration}
use Rattle.operation_specs.specs.Operation.{Transmit}
use Rattle.operation_specs.specs.Spelling.{spell}
use Rattle.bus_ops.specs.Fields.{operation_at, fields_at, plain_at, transmit_at, classical_at, classical_behind, checked}
use Rattle.bus_ops.specs.ItemsIn.{items_in, items_within, item_in}
use Rattle.fmi_states.specs.declared.phase.Phase.TheVariants.{Fresh, Step}
use Rattle.module_specs.specs.ModuleSpelling.{empty}
use Rattle.unit_specs.specs.Description.{Description}
use Rattle.session_specs.specs.Outcome.{SessionOut, At, Keep}
use Rattle.session_specs.specs.Outcome as session
use Rattle.binding_specs.specs.Guests.{Guest}
use Rattle.run_specs.specs.Run.{behind}
use Rattle.bus_specs.specs.Bus.{Setup, Received, Confirm, Mail, Running, winner}
use Rattle.bus_specs.specs.Start.{course, start}
use Rattle.bus_specs.specs.Finish.{finish}
use Rattle.bus_specs.specs.Submit.{submission_of, submit}
use Rattle.bus_specs.specs.Inbox.{take_inbox}
use Rattle.world_specs.specs.Units.{Units}
use Rattle.world_specs.specs.Next.{next_event}
use Rattle.world_specs.specs.Network.{network, step}
use Rattle.world_specs.specs.Plan.{Plan, opening_of}
use Rattle.bus_images.specs.Images.{MemberImage, BusImage}
use Rattle.network_images.specs.Images.{NodeImage, New, Live}
use Rattle.saved_specs.specs.Saved.{GuestImage, Saved, saved_of}

-- ---- a plan: a sender with a clock, and a listener

abbrev description : List ℕ → Description
description clocks = record {
  identifier = [];
  countdown = clocks;
  terminals = record { name = []; rx_data = 0; tx_data = 1; rx_clock = 2; tx_clock = 3; rx_max = 256; tx_max = 256 } ∷ [];
}

abbrev setup : Setup
setup = record { number = 0; rate = 500000; fd_rate = None; nominal = 2000; data_bit_time = None; errors = [] }

abbrev pub plan : Plan
plan = record {
  resolution = 1000000000;
  stop = 1000000;
  events = 10;
  fuel = 1000;
  buses = record { setup = setup; members = 0 ∷ 1 ∷ [] } ∷ [];
  nodes = record { description = description (4 ∷ []); buses = 0 ∷ [] } ∷ record { description = description []; buses = 0 ∷ [] } ∷ [];
}

abbrev guest : List ℕ → Guest
guest clocks = record {
  code = empty;
  description = description clocks;
  budget = 1000;
  phase = Fresh;
  area = 0;
  store = record { bytes = []; globals = [] };
}

abbrev pub guests : List Guest
guests = guest (4 ∷ []) ∷ guest [] ∷ []

-- ---- units: the sender transmits at 0, and each notes in a global at what moment it was called

abbrev frame : Frame
frame = record { id = 0xff; ext = false; kind = Data; bytes = [] }

abbrev said : ℕ → ℕ → SessionOut
said node now = record {
  emitted = if node == 0 && now == 0 then record { terminal = 0; bytes = spell (Transmit frame) } ∷ [] else [];
  dues = if node == 0 then (if now == 0 then At 500000 else Keep) ∷ [] else [];
  end = session.Live;
}

abbrev called : ℕ → Guest → Guest
called now g = record g { phase = Step; area = 8; store = record { bytes = []; globals = now ∷ g.store.globals } }

abbrev pub units : Units Guest
units = record {
  session = λ node g s. (said node g.moment, called g.moment s);
  close = λ node s. (session.Over, s);
}

-- ---- what is saved

abbrev calm : Option Mail → MemberImage
calm mail = record {
  awake = true;
  discards = false;
  counters = record { tec = 0; rec = 0 };
  occurrences = None;
  lost = None;
  format = None;
  wake = None;
  mail = mail;
}

abbrev empty_bus : BusImage
empty_bus = record {
  attempts = 0;
  next = 0;
  idle = 0;
  last_sender = None;
  running = None;
  requests = [];
  members = calm None ∷ calm None ∷ [];
}

abbrev live : (last : ℕ) → List (Option ℕ) → List ℕ → NodeImage GuestImage
live last clocks moments = Live last clocks (record { area = 8; store = record { bytes = []; globals = moments } })

-- as it opens
abbrev opened : Saved
opened = record { events = 0; now = 0; buses = empty_bus ∷ []; nodes = New ∷ New ∷ [] }

abbrev nodes : List (NodeImage GuestImage)
nodes = live 0 (Some 500000 ∷ []) (0 ∷ []) ∷ live 0 [] (0 ∷ []) ∷ []

-- behind the first sessions both nodes are live, and the sender's frame waits
abbrev waiting_bus : BusImage
waiting_bus = record empty_bus { next = 1; requests = record { node = 0; number = 0; frame = frame } ∷ [] }

abbrev asked : Saved
asked = record { events = 1; now = 0; buses = waiting_bus ∷ []; nodes = nodes }

-- it runs from 0 on, heard by the other node, and its request is kept until it ends
abbrev running : Running
running = record { sender = 0; number = 0; frame = frame; end = 94000; fault = None; hurt = None; listeners = 1 ∷ [] }

abbrev started : Saved
started = record asked { events = 2; buses = record waiting_bus { attempts = 1; running = Some running } ∷ [] }

-- behind its end both have mail, and three bits later the bus is idle
abbrev free_bus : BusImage
free_bus = record empty_bus { attempts = 1; next = 1; idle = 100000; last_sender = Some 0 }

abbrev ended : Saved
ended = record {
  events = 3;
  now = 94000;
  buses = record free_bus { members = calm (Some (Confirm 0xff)) ∷ calm (Some (Received frame)) ∷ [] } ∷ [];
  nodes = nodes;
}

-- and behind the sessions that take it none is left
abbrev heard : Saved
heard = record {
  events = 4;
  now = 94000;
  buses = free_bus ∷ [];
  nodes = live 94000 (Some 500000 ∷ []) (94000 ∷ 0 ∷ []) ∷ live 94000 [] (94000 ∷ 0 ∷ []) ∷ [];
}

abbrev saved_behind : ℕ → Saved
saved_behind events = saved_of (behind (network units 1000000) events (opening_of plan guests))

pub first_states : map saved_behind (0 ∷ 1 ∷ 2 ∷ 3 ∷ 4 ∷ []) ≡ opened ∷ asked ∷ started ∷ ended ∷ heard ∷ []
unfolding next_event step behind spell items_in items_within item_in operation_at fields_at plain_at transmit_at classical_at
    classical_behind checked stuff stuffed time_of duration winner course start finish submit submission_of take_inbox
first_states = refl
