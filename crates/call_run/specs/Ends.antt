-- How a call of the machine ended, and the line on it. No public clause cites this file.
use Rattle.std.specs.Prelude.{ℕ, List, ◌++◌, Option, Some, None, codes, decimal}
use Rattle.wasm_types.specs.declared.module.Module.{Module}
use Rattle.code_specs.specs.Stores.{Store}
use Rattle.wasm_machine.specs.declared.outcome.Outcome.{Outcome}
use Rattle.wasm_machine.specs.declared.outcome.Outcome.TheVariants.{Value, Trap, Spent}
use Rattle.wasm_machine.specs.Instances.{Stands, store_in}
use Rattle.call_specs.specs.CallLine.{trap_word}
use Rattle.call_run.specs.declared.machine.End.{End}
use Rattle.call_run.specs.declared.machine.Machine.{Machine}

-- the bytes and globals of the instance
abbrev pub store_of : Machine → Store
store_of k = store_in k.pool k.instance

-- the instance was made from this module, and its memory is there
abbrev pub StandsIn : Module → Machine → Type 0
StandsIn m k = Stands m k.pool k.instance

abbrev pub number_or_dash : Option ℕ → List ℕ
number_or_dash None = codes "-"
number_or_dash (Some n) = decimal n

abbrev pub left_text : ℕ → List ℕ
left_text left = codes " left " ++ decimal left ++ codes "\n"

abbrev pub outcome_text : Outcome → (left : ℕ) → List ℕ
outcome_text (Value v) left = codes "value " ++ number_or_dash v ++ left_text left
outcome_text (Trap kind) left = codes "trap " ++ trap_word kind ++ left_text left
outcome_text Spent left = codes "spent left 0\n"

abbrev pub end_line : End → List ℕ
end_line e = outcome_text e.outcome e.left
