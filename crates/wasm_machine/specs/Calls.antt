-- Calls from outside.
use Rattle.std.specs.Prelude.{◌≡◌, ℕ, List, Some, length}
use Rattle.wasm_types.specs.declared.module.Module.{Module}
use Rattle.wasm_types.specs.Back.{nested_module}
use Rattle.code_specs.specs.Values.{Value}
use Rattle.code_specs.specs.Stores.{Store}
use Rattle.code_specs.specs.Signatures.{Function, function_at}
use Rattle.code_specs.specs.Execution.{Answer, Returned, Trapped, Spent, Stuck, answer_of}
use Rattle.code_laws.specs.Answers.{Fit}
use Rattle.wasm_machine.specs.declared.outcome.Outcome.{Outcome}
use Rattle.wasm_machine.specs.declared.outcome.Outcome.TheVariants as outcome
use Rattle.wasm_machine.specs.declared.stack.Turn.{Turn}
use Rattle.wasm_machine.specs.declared.stack.Turn.TheVariants as turn
use Rattle.wasm_machine.specs.Seen.{values_of}

-- the module has the function, and the arguments fit its type
pub record Fits (m : Module) (index : ℕ) (arguments : List ℕ) : Type 0 where
  pub f : Function
  pub is : function_at (nested_module m) index ≡ Some f
  pub fit : Fit f.ty.params arguments

-- what a call of the module's function gives
abbrev pub meant : Module → (index : ℕ) → (arguments : List ℕ) → Store → (fuel : ℕ) → Answer Value
meant m index arguments s fuel = answer_of (nested_module m) index arguments s fuel

-- the answer that the last turn of the machine is
abbrev pub answer_at : Turn → Store → (fuel : ℕ) → Answer ℕ
answer_at turn.Go s fuel = Stuck
answer_at (turn.Returned v) s fuel = Returned (values_of v) s fuel
answer_at (turn.Trapped kind) s fuel = Trapped kind s fuel
answer_at turn.Spent s fuel = Spent s

-- the call leaves exactly so many bytes: no memory.grow has succeeded in it
abbrev pub KeepsSize : (count : ℕ) → Answer Value → Type 0
KeepsSize count (Returned vs s fuel) = length s.bytes ≡ count
KeepsSize count (Trapped kind s fuel) = length s.bytes ≡ count
KeepsSize count (Spent s) = length s.bytes ≡ count
KeepsSize count Stuck = Unit {0}

-- the answer that an outcome is, with the store and the fuel that are left
abbrev pub answer_with : Outcome → Store → (fuel : ℕ) → Answer ℕ
answer_with (outcome.Value v) s fuel = Returned (values_of v) s fuel
answer_with (outcome.Trap kind) s fuel = Trapped kind s fuel
answer_with outcome.Spent s fuel = Spent s
