-- The steps of the machine over its own stack.
use Rattle.std.specs.Prelude.{ℕ, suc, ◌+◌, List, [], ◌∷◌, Option, Some, None}
use Rattle.wasm_types.specs.declared.instr.ValType.{ValType}
use Rattle.wasm_types.specs.declared.instr.Instr.{Instr}
use Rattle.wasm_types.specs.declared.instr.Instr.TheVariants.{Else, End}
use Rattle.wasm_types.specs.declared.module.Module.{Module}
use Rattle.wasm_types.specs.Back.{nested_module}
use Rattle.code_specs.specs.Stores.{Store}
use Rattle.code_specs.specs.Effects.{Effect, local_effect, indirect_call}
use Rattle.code_specs.specs.Execution.{Returned, Trapped, Spent}
use Rattle.machine_steps.specs.declared.frame.Label.{Label}
use Rattle.machine_steps.specs.Steps.{Step, Go, Stop, returning, calling, branching, closing, choosing, doing, executing, step_of}
use Rattle.wasm_machine.specs.declared.stack.Stack.{Stack}
use Rattle.wasm_machine.specs.declared.stack.Turn.{Turn}
use Rattle.wasm_machine.specs.declared.stack.Turn.TheVariants as turn

-- none or one
abbrev pub values_of : Option ℕ → List ℕ
values_of None = []
values_of (Some n) = n ∷ []

-- the step that a turn of the machine is
abbrev pub seen : Turn → Stack → Store → (fuel : ℕ) → Step
seen turn.Go k s fuel = Go k.func k.position k.base k.depth k.values k.labels k.callers s fuel
seen (turn.Returned v) k s fuel = Stop (Returned (values_of v) s fuel)
seen (turn.Trapped kind) k s fuel = Stop (Trapped kind s fuel)
seen turn.Spent k s fuel = Stop (Spent s)

abbrev pub returning_in : Module → Stack → Store → (fuel : ℕ) → Step
returning_in fm k s fuel = returning fm k.func k.base k.depth k.values k.labels k.callers s fuel

abbrev pub calling_in : Module → (index : ℕ) → Stack → Store → (fuel : ℕ) → Step
calling_in fm index k s fuel = calling fm index k.func k.position k.base k.depth k.values k.labels k.callers s fuel

abbrev pub branching_in : Module → (label : ℕ) → Stack → Store → (fuel : ℕ) → Step
branching_in fm label k s fuel = branching fm label k.func k.base k.depth k.values k.labels k.callers s fuel

abbrev pub closing_in : Module → (position : ℕ) → Stack → Store → (fuel : ℕ) → Step
closing_in fm position k s fuel = closing fm k.func position k.base k.depth k.values k.labels k.callers s fuel

abbrev pub choosing_in : Option ValType → Option ℕ → (end : ℕ) → Stack → Store → (fuel : ℕ) → Step
choosing_in r q end k s fuel = choosing r q end k.func k.position k.base k.depth k.values k.labels k.callers s fuel

-- one more list is open, and this position comes next
abbrev pub opening_in : (position : ℕ) → Label → Stack → Store → (fuel : ℕ) → Step
opening_in position l k s fuel = Go k.func position k.base (k.depth + 1) k.values (l ∷ k.labels) k.callers s fuel

-- an instruction that has taken its unit
abbrev pub executing_in : Module → Instr → Stack → Store → (fuel : ℕ) → Step
executing_in fm i k s fuel = executing (nested_module fm) fm (Some i) k.func k.position k.base k.depth k.values k.labels k.callers s (suc fuel)

abbrev pub step_in : Module → Stack → Store → (fuel : ℕ) → Step
step_in fm k s fuel = step_of (nested_module fm) fm k.func k.position k.base k.depth k.values k.labels k.callers s fuel

-- an end and an else take no unit
abbrev pub TakesUnit : Instr → Type 0
TakesUnit End = ⊥
TakesUnit (Else e) = ⊥
TakesUnit other = Unit {0}

-- what an effect does
abbrev pub doing_in : Module → Effect ℕ → Stack → Store → (fuel : ℕ) → Step
doing_in fm x k s fuel = doing fm x k.func k.position k.base k.depth k.labels k.callers s fuel

-- local.get, local.set and local.tee
abbrev pub local_in : Module → (op index : ℕ) → Stack → Store → (fuel : ℕ) → Step
local_in fm op index k s fuel = doing_in fm (local_effect op index k.values) k s fuel

-- call_indirect, at an entry of the table
abbrev pub entry_in : Module → Option (Option ℕ) → (ty : ℕ) → Stack → Store → (fuel : ℕ) → Step
entry_in fm entry ty k s fuel = doing_in fm (indirect_call (nested_module fm) ty entry k.values) k s fuel
