-- The program that all guests run: what they do is told by what their memory holds at the beginning (docs/GUESTS.md).
use Rattle.std.specs.Prelude.{ℕ, List, [], ◌∷◌, None, codes, pos}
use Rattle.wasm_types.specs.declared.instr.ValType.TheVariants.{I32, I64}
use Rattle.wasm_types.specs.declared.instr.Instr.{Instr}
use Rattle.wasm_types.specs.declared.instr.Instr.TheVariants.{Local, Access, I32Const, I64Const, Numeric, Br, BrIf, Call}
use Rattle.wasm_types.specs.declared.module.FuncType.{FuncType}
use Rattle.wasm_types.specs.declared.module.Export.{Export}
use Rattle.wasm_types.specs.Nested.{Code, Nil, Leaf, InBlock, InLoop, IfOnly}
use Rattle.wasm_types.specs.Modules.{NestedFunc, NestedModule}
use Rattle.module_specs.specs.ModuleSpelling.{empty}

-- ---- instructions under names (WebAssembly Core 1.0, sections 5.4.3 to 5.4.5)

abbrev pub get : ℕ → Instr
get n = Local 0x20 n

abbrev pub set : ℕ → Instr
set n = Local 0x21 n

abbrev pub tee : ℕ → Instr
tee n = Local 0x22 n

abbrev pub number : ℕ → Instr
number n = I32Const (pos n)

abbrev pub long : ℕ → Instr
long n = I64Const (pos n)

-- 32 or 64 bits at an address, so many bytes behind it
abbrev pub load : ℕ → Instr
load offset = Access 0x28 2 offset

abbrev pub load_long : ℕ → Instr
load_long offset = Access 0x29 3 offset

abbrev pub store : ℕ → Instr
store offset = Access 0x36 2 offset

abbrev pub store_long : ℕ → Instr
store_long offset = Access 0x37 3 offset

abbrev pub equal : Instr
equal = Numeric 0x46

abbrev pub unequal : Instr
unequal = Numeric 0x47

-- of signed numbers
abbrev pub not_above : Instr
not_above = Numeric 0x4C

-- of unsigned numbers
abbrev pub not_below : Instr
not_below = Numeric 0x4F

abbrev pub add : Instr
add = Numeric 0x6A

abbrev pub subtract : Instr
subtract = Numeric 0x6B

abbrev pub both : Instr
both = Numeric 0x71

abbrev pub either : Instr
either = Numeric 0x72

-- instructions that hold no list, and the rest of a list
abbrev pub line : List Instr → Code → Code
line [] rest = rest
line (i ∷ is) rest = Leaf i (line is rest)

-- ---- functions: numbers and bytes are exchanged from 16384 on, and what goes out is gathered from 32768 on

-- where numbers and bytes are exchanged
abbrev pub area_code : Code
area_code = line (number 16384 ∷ []) Nil

-- status OK
abbrev pub fine_code : Code
fine_code = line (number 0 ∷ []) Nil

-- a tick of the countdown clock: the answer goes out, and the interval is to be told again
abbrev pub tick_code : Code
tick_code = line (get 0 ∷ number 100 ∷ equal ∷ []) (IfOnly None due fine_code)
  where
    due : Code
    due = line (number 40 ∷ number 0 ∷ load 36 ∷ Call 10 ∷ number 0 ∷ number 2 ∷ store 16 ∷ []) Nil

-- each operation that came in, from 16448 on: a transmit goes out again where that is wanted, and for a wakeup the answer
abbrev pub take_code : Code
take_code = line (get 0 ∷ number 1 ∷ equal ∷ []) (IfOnly None (line (number 16448 ∷ tee 2 ∷ get 1 ∷ add ∷ set 1 ∷ []) all) fine_code)
  where
    forwarded : Code
    forwarded = line (get 2 ∷ get 2 ∷ load 4 ∷ Call 10 ∷ []) Nil

    answered : Code
    answered = line (number 40 ∷ number 0 ∷ load 36 ∷ Call 10 ∷ []) Nil

    next : Code
    next = line (get 2 ∷ get 2 ∷ load 4 ∷ add ∷ set 2 ∷ Br 0 ∷ []) Nil

    wakeup : Code
    wakeup = line (get 2 ∷ load 0 ∷ number 0x42 ∷ equal ∷ number 0 ∷ load 32 ∷ both ∷ []) (IfOnly None answered next)

    transmit : Code
    transmit =
        line (get 2 ∷ get 1 ∷ not_below ∷ BrIf 1 ∷ [])
        (line (get 2 ∷ load 0 ∷ number 0x10 ∷ equal ∷ get 2 ∷ load 0 ∷ number 0x11 ∷ equal ∷ either ∷ number 0 ∷ load 28 ∷ both ∷ [])
        (IfOnly None forwarded wakeup))

    all : Code
    all = InBlock None (InLoop None transmit Nil) Nil

-- whether a clock ticks: that of what goes out, where anything does
abbrev pub ask_code : Code
ask_code =
    line (number 16384 ∷ get 0 ∷ number 0 ∷ load 24 ∷ equal ∷ number 0 ∷ load 20 ∷ number 0 ∷ unequal ∷ both ∷ store 0 ∷ [])
    fine_code

-- what goes out: its length and its bytes
abbrev pub give_code : Code
give_code =
    line (number 16384 ∷ number 0 ∷ load 20 ∷ store 0 ∷ number 16448 ∷ number 32768 ∷ number 0 ∷ load 20 ∷ Call 11 ∷ [])
    (line (number 0 ∷ number 0 ∷ store 20 ∷ []) fine_code)

-- neither another update nor the end
abbrev pub update_code : Code
update_code = line (number 16384 ∷ long 0 ∷ store_long 0 ∷ []) fine_code

-- counter, resolution and qualifier, which is 1 (unchanged) from then on
abbrev pub interval_code : Code
interval_code =
    line (number 16384 ∷ number 0 ∷ load_long 0 ∷ store_long 0 ∷ number 16384 ∷ number 0 ∷ load_long 8 ∷ store_long 8 ∷ [])
    (line (number 16384 ∷ number 0 ∷ load 16 ∷ store 16 ∷ number 0 ∷ number 1 ∷ store 16 ∷ []) fine_code)

-- bytes from an address on go out too
abbrev pub append_code : Code
append_code =
    line (number 32768 ∷ number 0 ∷ load 20 ∷ add ∷ get 0 ∷ get 1 ∷ Call 11 ∷ [])
    (line (number 0 ∷ number 0 ∷ load 20 ∷ get 1 ∷ add ∷ store 20 ∷ []) Nil)

-- bytes are copied to one address from another, eight at a time
abbrev pub copy_code : Code
copy_code = InBlock None (InLoop None each Nil) Nil
  where
    each : Code
    each =
        line (get 2 ∷ number 0 ∷ not_above ∷ BrIf 1 ∷ get 0 ∷ get 1 ∷ load_long 0 ∷ store_long 0 ∷ [])
        (line (get 0 ∷ number 8 ∷ add ∷ set 0 ∷ get 1 ∷ number 8 ∷ add ∷ set 1 ∷ get 2 ∷ number 8 ∷ subtract ∷ set 2 ∷ Br 0 ∷ []) Nil)

-- ---- the module

abbrev pub types : List FuncType
types =
    record { params = []; results = I32 ∷ [] }
    ∷ record { params = I32 ∷ []; results = I32 ∷ [] }
    ∷ record { params = I32 ∷ I32 ∷ []; results = I32 ∷ [] }
    ∷ record { params = I64 ∷ I64 ∷ []; results = I32 ∷ [] }
    ∷ record { params = []; results = [] }
    ∷ record { params = I32 ∷ I32 ∷ []; results = [] }
    ∷ record { params = I32 ∷ I32 ∷ I32 ∷ []; results = [] }
    ∷ []

abbrev pub functions : List NestedFunc
functions =
    record { ty = 1; locals = []; code = area_code }
    ∷ record { ty = 0; locals = []; code = fine_code }
    ∷ record { ty = 2; locals = []; code = tick_code }
    ∷ record { ty = 2; locals = I32 ∷ []; code = take_code }
    ∷ record { ty = 1; locals = []; code = ask_code }
    ∷ record { ty = 1; locals = []; code = give_code }
    ∷ record { ty = 0; locals = []; code = update_code }
    ∷ record { ty = 1; locals = []; code = interval_code }
    ∷ record { ty = 3; locals = []; code = fine_code }
    ∷ record { ty = 4; locals = []; code = Nil }
    ∷ record { ty = 5; locals = []; code = append_code }
    ∷ record { ty = 6; locals = []; code = copy_code }
    ∷ []

-- a function under a name
abbrev pub row : List ℕ → ℕ → Export
row name func = record { name = name; kind = 0; index = func }

-- in the order of the table of exports
abbrev pub exports : List Export
exports =
    record { name = codes "memory"; kind = 2; index = 0 }
    ∷ row (codes "bench_area") 0
    ∷ row (codes "fmi3InstantiateCoSimulation") 1
    ∷ row (codes "fmi3EnterInitializationMode") 1
    ∷ row (codes "fmi3ExitInitializationMode") 1
    ∷ row (codes "fmi3EnterEventMode") 1
    ∷ row (codes "fmi3EnterStepMode") 1
    ∷ row (codes "fmi3SetClock") 2
    ∷ row (codes "fmi3SetBinary") 3
    ∷ row (codes "fmi3GetClock") 4
    ∷ row (codes "fmi3GetBinary") 5
    ∷ row (codes "fmi3UpdateDiscreteStates") 6
    ∷ row (codes "fmi3GetIntervalFraction") 7
    ∷ row (codes "fmi3DoStep") 8
    ∷ row (codes "fmi3Terminate") 1
    ∷ row (codes "fmi3FreeInstance") 9
    ∷ []

-- with one page of memory, and nothing in it
abbrev pub program : NestedModule
program = record empty {
  types = types;
  funcs = functions;
  memories = record { min = 1; max = None } ∷ [];
  exports = exports;
}
