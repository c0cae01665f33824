-- Where faults lie.
use Rattle.std.specs.Prelude.{◌≡◌, ℕ, ◌+◌, ◌<◌, ◌≤◌, List, length, Ok}
use Rattle.module_specs.specs.declared.fault.Fault.{Fault}
use Rattle.module_specs.specs.declared.fault.Fault.TheVariants.{Short, Size, Magic, Version, Section, Order, Number, Import, Float, Form, Utf8, Opcode, Nesting, Count, Limit, Memory}
use Rattle.module_specs.specs.Reading.{u32_at}

-- the place of a fault; want of memory has none
abbrev pub place_of : Fault → ℕ
place_of (Short at) = at
place_of (Size at) = at
place_of (Magic at) = at
place_of (Version at) = at
place_of (Section at) = at
place_of (Order at) = at
place_of (Number at) = at
place_of (Import at) = at
place_of (Float at) = at
place_of (Form at) = at
place_of (Utf8 at) = at
place_of (Opcode at byte) = at
place_of (Nesting at) = at
place_of (Count at) = at
place_of (Limit at) = at
place_of Memory = 0

-- it lies in a region with this end, or at the end
abbrev pub IsIn : ℕ → Fault → Type 0
IsIn end e = place_of e ≤ end

-- a size of this file leads past the end of the file, and this fault names the end that it states
abbrev pub LeadsPast : List ℕ → Fault → Type 0
LeadsPast b e =
    (at : ℕ) × (size : ℕ) × (next : ℕ) × (u32_at b at ≡ Ok (size, next)) × (length b < next + size) × (e ≡ Short (next + size))
