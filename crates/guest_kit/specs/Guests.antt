-- The guests of this crate: what each does (docs/GUESTS.md).
use Rattle.std.specs.Prelude.{ℕ, Bool, true, false, List, [], ◌∷◌, ◌++◌, length, if◌then◌else◌}
use Rattle.std.specs.Int.{w32, w64, to_le_bytes}
use Rattle.std.specs.List.{repeat}
use Rattle.frame_specs.specs.Frame.{Frame, Data}
use Rattle.operation_specs.specs.Operation.{Transmit}
use Rattle.operation_specs.specs.Spelling.{spell}
use Rattle.wasm_types.specs.Modules.{NestedModule}
use Rattle.wasm_writer.specs.Building.{segment_at}
use Rattle.guest_kit.specs.declared.manner.Manner.{Manner}
use Rattle.guest_kit.specs.Program.{program}

abbrev pub u32 : ℕ → List ℕ
u32 n = to_le_bytes w32 n

abbrev pub u64 : ℕ → List ℕ
u64 n = to_le_bytes w64 n

abbrev pub flag : Bool → List ℕ
flag b = u32 (if b then 1 else 0)

-- the memory from 0 on, where the program looks for what it does: 40 bytes, and what it answers
abbrev pub numbers_of : Manner → List ℕ → List ℕ → List ℕ
numbers_of m answer opening =
    u64 m.counter
    ++ u64 m.resolution
    ++ u32 (if m.ticks then 2 else 1)
    ++ u32 (length opening)
    ++ u32 m.clock
    ++ flag m.forwards
    ++ flag m.wakes
    ++ u32 (length answer)
    ++ answer

-- the program over that, with what it emits in its first session
abbrev pub guest_module : Manner → List ℕ → List ℕ → NestedModule
guest_module m answer opening =
    record program { datas = segment_at 0 (numbers_of m answer opening) ∷ segment_at 32768 opening ∷ [] }

-- has no interval, forwards nothing and answers nothing
abbrev pub listens : Manner
listens = record {
  counter = 0;
  resolution = 0;
  ticks = false;
  clock = 2;
  forwards = false;
  wakes = false;
}

-- has an interval: counts of a resolution in a second
abbrev pub ticks : ℕ → ℕ → Manner
ticks counter resolution = record listens { counter = counter; resolution = resolution; ticks = true }

-- emits on terminal 0 what is transmitted there
abbrev pub echoes : Manner
echoes = record listens { forwards = true }

-- emits on terminal 1 what is transmitted on terminal 0
abbrev pub passes_on : Manner
passes_on = record listens { forwards = true; clock = 6 }

-- answers a wakeup
abbrev pub wakes : Manner
wakes = record listens { wakes = true }

-- a frame of the base identifier 0x7FF without data
abbrev pub short_frame : Frame
short_frame = record { id = 0x7FF; ext = false; kind = Data; bytes = [] }

-- transmitted 300 times
abbrev pub flood : List ℕ
flood = repeat 300 (spell (Transmit short_frame))
