-- A run: where a call begins, and so many steps of it.
use Rattle.std.specs.Prelude.{ℕ, zero, suc, List, [], ◌++◌, length, replicate, reverse}
use Rattle.wasm_types.specs.declared.module.Module.{Module}
use Rattle.wasm_types.specs.Modules.{NestedModule}
use Rattle.code_specs.specs.Stores.{Store}
use Rattle.code_specs.specs.Signatures.{Function}
use Rattle.machine_steps.specs.Rooms.{HasRoom}
use Rattle.machine_steps.specs.Steps.{Step, Go, Stop, step_of}

-- a call begins: the arguments are the first locals, and zeros are the others
abbrev pub beginning : (index : ℕ) → Function → (arguments : List ℕ) → Store → (fuel : ℕ) → Step
beginning index f arguments s fuel = Go index 0 0 0 (replicate (length f.locals) 0 ++ reverse arguments) [] [] s fuel

-- so many steps, or those up to the end
abbrev pub after_steps : NestedModule → Module → (count : ℕ) → Step → Step
after_steps m fm zero at = at
after_steps m fm (suc count) (Stop answer) = Stop answer
after_steps m fm (suc count) (Go func position base depth values labels callers s fuel) =
    after_steps m fm count (step_of m fm func position base depth values labels callers s fuel)

-- there is room for the next step
abbrev pub IsRoomy : Step → Type 0
IsRoomy (Go func position base depth values labels callers s fuel) = HasRoom depth values labels callers
IsRoomy (Stop answer) = Unit {0}
