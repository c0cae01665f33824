-- The line on a call.
use Rattle.std.specs.Prelude.{ℕ, List, [], ◌∷◌, ◌++◌, Option, Some, None, codes, decimal, option_map}
use Rattle.wasm_types.specs.Modules.{NestedModule}
use Rattle.code_specs.specs.declared.trap.TrapKind.{TrapKind}
use Rattle.code_specs.specs.declared.trap.TrapKind.TheVariants as trap
use Rattle.code_specs.specs.Values.{Value}
use Rattle.code_specs.specs.Instances.{opening_store}
use Rattle.code_specs.specs.Execution.{Answer, Returned, Trapped, Spent, Stuck, answer_of}

abbrev pub trap_word : TrapKind → List ℕ
trap_word trap.Unreachable = codes "Unreachable"
trap_word trap.Memory = codes "Memory"
trap_word trap.ZeroDivide = codes "ZeroDivide"
trap_word trap.Overflow = codes "Overflow"
trap_word trap.Table = codes "Table"
trap_word trap.Null = codes "Null"
trap_word trap.Signature = codes "Signature"
trap_word trap.Depth = codes "Depth"

-- a result without its sign, or a dash for none
abbrev pub value_or_dash : List Value → List ℕ
value_or_dash [] = codes "-"
value_or_dash (v ∷ vs) = decimal v.bits

-- how a call ended; a call of a valid module is never stuck
abbrev pub outcome_line : Answer Value → List ℕ
outcome_line (Returned values store fuel) =
    codes "value " ++ value_or_dash values ++ codes " left " ++ decimal fuel ++ codes "\n"
outcome_line (Trapped kind store fuel) = codes "trap " ++ trap_word kind ++ codes " left " ++ decimal fuel ++ codes "\n"
outcome_line (Spent store) = codes "spent left 0\n"
outcome_line Stuck = []

-- the function that runs first has ended so, if there is one; where it didn't return, the call isn't made
abbrev pub after_start : NestedModule → (index : ℕ) → (arguments : List ℕ) → (fuel : ℕ) → Option (Answer Value) → List ℕ
after_start m index arguments fuel None = outcome_line (answer_of m index arguments (opening_store m) fuel)
after_start m index arguments fuel (Some (Returned values store left)) =
    outcome_line (answer_of m index arguments store fuel)
after_start m index arguments fuel (Some (Trapped kind store left)) = codes "start " ++ outcome_line (Trapped kind store left)
after_start m index arguments fuel (Some (Spent store)) = codes "start " ++ outcome_line (Spent store)
after_start m index arguments fuel (Some Stuck) = []

-- A function of a new instance is called with these arguments. It has this much fuel, and so has the function that
-- runs first.
abbrev pub call_line : NestedModule → (index : ℕ) → (arguments : List ℕ) → (fuel : ℕ) → List ℕ
call_line m index arguments fuel =
    after_start m index arguments fuel (option_map (λ first. answer_of m first [] (opening_store m) fuel) m.start)
