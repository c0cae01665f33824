-- Buses on which the laws of attempts and of recovery say something.
use Rattle.std.specs.Prelude.{ℕ, true, false, List, [], ◌∷◌, Option, Some, None}
use Rattle.frame_specs.specs.Frame.{Frame, Data}
use Rattle.bus_specs.specs.Counters.{Counters}
use Rattle.bus_specs.specs.Bus.{Bus, Setup, Member, Request, Running}
use Rattle.bus_specs.specs.Start.{course, running_frame}

abbrev pub frame : Frame
frame = record { id = 5; ext = false; kind = Data; bytes = [] }

-- node 1 detects a stuffing error in the first attempt
abbrev pub setup : Setup
setup = record { number = 1; rate = 500000; fd_rate = None; nominal = 1000; data_bit_time = None; errors = record { first = 1; count = 1; kind = 2; by = Some 1; bit = 9 } ∷ [] }

abbrev pub node : ℕ → Counters → Option ℕ → Member
node n counters occurrences = record { node = n; live = true; awake = true; discards = false; counters = counters; occurrences = occurrences; lost = None; format = None; wake = None; mail = None }

abbrev pub active : Counters
active = record { tec = 0; rec = 0 }

abbrev pub request : Request
request = record { node = 0; number = 0; frame = frame }

-- node 0 asks for one frame
abbrev pub bus_of : List Member → Bus
bus_of members = record { setup = setup; members = members; requests = request ∷ []; next = 1; attempts = 0; idle = 0; last_sender = None; running = None }

abbrev pub first_frame : Bus → Running
first_frame b = running_frame request (course b 0 request)

-- the listener is passive, and is hurt
abbrev pub hurt_bus : Bus
hurt_bus = bus_of (node 0 active None ∷ node 1 (record { tec = 0; rec = 128 }) None ∷ [])

-- the listener is active, and the attempt fails
abbrev pub failing_bus : Bus
failing_bus = bus_of (node 0 active None ∷ node 1 active None ∷ [])

-- node 2 is off, and returns at 11 bits
abbrev pub returning_bus : Bus
returning_bus = record { setup = setup; members = node 0 active None ∷ node 2 (record { tec = 256; rec = 0 }) (Some 127) ∷ []; requests = []; next = 0; attempts = 0; idle = 0; last_sender = None; running = None }
