-- Blocks, loops, branches and choices, with the fuel counted by hand: one unit for each instruction that begins.
use Rattle.std.specs.Prelude.{◌≡◌, ℕ, [], ◌∷◌, Some, None, replicate, refl}
use Rattle.wasm_types.specs.declared.instr.ValType.TheVariants.{I32, I64}
use Rattle.wasm_types.specs.declared.instr.Instr.TheVariants.{Unreachable, Nop, Br, BrIf, BrTable, Return, Drop, Select, Globals, Access, Numeric}
use Rattle.wasm_types.specs.Nested.{Code, Nil, Leaf, InBlock, InLoop, IfOnly, IfElse}
use Rattle.code_specs.specs.declared.trap.TrapKind.TheVariants as trap
use Rattle.code_specs.specs.Values.{Value}
use Rattle.code_specs.specs.Stores.{bytes_of}
use Rattle.code_specs.specs.Numerics.{unary, binary}
use Rattle.code_specs.specs.Signatures.{signature_of, opcode_signature, access_bytes}
use Rattle.code_specs.specs.Effects.{meaning_of, effect_of}
use Rattle.code_specs.specs.Instances.{table_of}
use Rattle.code_specs.specs.Execution.{Answer, Returned, Trapped, Spent, Stuck, invoke, answer_of}
use Rattle.worked_code.specs.Sample.{i32, code, const32, const64, get, put, tee, add32, func, sample, opening}

-- a function i32 -> i32 with this body and a local of type i64, called with an argument and fuel
abbrev run : Code → ℕ → ℕ → Answer Value
run body argument fuel = answer_of (sample (func 2 (I64 ∷ []) body ∷ [])) 0 (argument ∷ []) opening fuel

abbrev gave : ℕ → ℕ → Answer Value
gave n fuel = Returned (i32 n ∷ []) opening fuel

-- local.get 0, i32.const 1, i32.add
abbrev plus_one : Code
plus_one = code (get 0 ∷ const32 1 ∷ add32 ∷ [])

three_units : run plus_one 41 10 ≡ gave 42 7
unfolding answer_of invoke effect_of meaning_of signature_of opcode_signature access_bytes bytes_of unary binary table_of
three_units = refl

sum_wraps : run plus_one 0xFFFFFFFF 10 ≡ gave 0 7
unfolding answer_of invoke effect_of meaning_of signature_of opcode_signature access_bytes bytes_of unary binary table_of
sum_wraps = refl

just_enough : run plus_one 41 3 ≡ gave 42 0
unfolding answer_of invoke effect_of meaning_of signature_of opcode_signature access_bytes bytes_of unary binary table_of
just_enough = refl

one_too_few : run plus_one 41 2 ≡ Spent opening
unfolding answer_of invoke effect_of meaning_of signature_of opcode_signature access_bytes bytes_of unary binary table_of
one_too_few = refl

no_fuel : run plus_one 41 0 ≡ Spent opening
unfolding answer_of invoke effect_of meaning_of signature_of opcode_signature access_bytes bytes_of unary binary table_of
no_fuel = refl

nop_costs_a_unit : run (code (Nop ∷ get 0 ∷ [])) 7 10 ≡ gave 7 8
unfolding answer_of invoke effect_of meaning_of signature_of opcode_signature access_bytes bytes_of unary binary table_of
nop_costs_a_unit = refl

-- the end of a list needs no fuel
abbrev in_blocks : Code
in_blocks = InBlock (Some I32) (InBlock (Some I32) (code (get 0 ∷ [])) Nil) Nil

ends_are_free : run in_blocks 7 3 ≡ gave 7 0
unfolding answer_of invoke effect_of meaning_of signature_of opcode_signature access_bytes bytes_of unary binary table_of
ends_are_free = refl

-- a branch out of a block carries its result; behind it in the block nothing is run
abbrev left_early : Code
left_early = InBlock (Some I32) (code (const32 7 ∷ get 0 ∷ BrIf 0 ∷ Drop ∷ const32 9 ∷ [])) Nil

branch_taken : run left_early 1 10 ≡ gave 7 6
unfolding answer_of invoke effect_of meaning_of signature_of opcode_signature access_bytes bytes_of unary binary table_of
branch_taken = refl

branch_not_taken : run left_early 0 10 ≡ gave 9 4
unfolding answer_of invoke effect_of meaning_of signature_of opcode_signature access_bytes bytes_of unary binary table_of
branch_not_taken = refl

-- operands below the result are dropped by a branch, those from before the block are kept
abbrev surplus : Code
surplus = Leaf (const32 100) (InBlock (Some I32) (code (const32 1 ∷ const32 2 ∷ const32 3 ∷ Br 0 ∷ [])) (code (add32 ∷ [])))

surplus_is_dropped : run surplus 0 10 ≡ gave 103 3
unfolding answer_of invoke effect_of meaning_of signature_of opcode_signature access_bytes bytes_of unary binary table_of
surplus_is_dropped = refl

-- a branch over two labels: the i32.add behind the inner block isn't run
abbrev over_two : Code
over_two = InBlock (Some I32) (InBlock (Some I32) (code (const32 5 ∷ Br 1 ∷ [])) (code (const32 1 ∷ add32 ∷ []))) Nil

outer_label : run over_two 0 10 ≡ gave 5 6
unfolding answer_of invoke effect_of meaning_of signature_of opcode_signature access_bytes bytes_of unary binary table_of
outer_label = refl

-- a branch to the label of the body returns, and so does return
abbrev to_the_body : Code
to_the_body = InBlock None (code (const32 8 ∷ Br 1 ∷ [])) (code (const32 9 ∷ []))

body_label : run to_the_body 0 10 ≡ gave 8 7
unfolding answer_of invoke effect_of meaning_of signature_of opcode_signature access_bytes bytes_of unary binary table_of
body_label = refl

return_from_a_block : run (InBlock None (code (const32 1 ∷ const32 8 ∷ Return ∷ [])) (code (const32 9 ∷ []))) 0 10 ≡ gave 8 6
unfolding answer_of invoke effect_of meaning_of signature_of opcode_signature access_bytes bytes_of unary binary table_of
return_from_a_block = refl

-- counts the argument down to 0: the loop, five instructions each time, and the last local.get
abbrev count_down : Code
count_down = InLoop None (code (get 0 ∷ const32 1 ∷ Numeric 0x6B ∷ tee 0 ∷ BrIf 0 ∷ [])) (code (get 0 ∷ []))

three_iterations : run count_down 3 20 ≡ gave 0 3
unfolding answer_of invoke effect_of meaning_of signature_of opcode_signature access_bytes bytes_of unary binary table_of
three_iterations = refl

spent_in_the_third : run count_down 3 16 ≡ Spent opening
unfolding answer_of invoke effect_of meaning_of signature_of opcode_signature access_bytes bytes_of unary binary table_of
spent_in_the_third = refl

loops_for_ever : run (InLoop (Some I32) (code (Br 0 ∷ [])) Nil) 0 1000 ≡ Spent opening
unfolding answer_of invoke effect_of meaning_of signature_of opcode_signature access_bytes bytes_of unary binary table_of
loops_for_ever = refl

-- a loop that is left by a branch to the block around it
abbrev left_loop : Code
left_loop = InBlock (Some I32) (InLoop None (code (get 0 ∷ Br 1 ∷ [])) (code (Unreachable ∷ []))) Nil

loop_left : run left_loop 6 10 ≡ gave 6 6
unfolding answer_of invoke effect_of meaning_of signature_of opcode_signature access_bytes bytes_of unary binary table_of
loop_left = refl

-- a choice between 1 and 2, and one that has no else
abbrev choice : Code
choice = Leaf (get 0) (IfElse (Some I32) (code (const32 1 ∷ [])) (code (const32 2 ∷ [])) Nil)

abbrev maybe : Code
maybe = Leaf (get 0) (IfOnly None (code (const32 3 ∷ put 0 ∷ [])) (code (get 0 ∷ [])))

first_chosen : run choice 0x80000000 10 ≡ gave 1 7
unfolding answer_of invoke effect_of meaning_of signature_of opcode_signature access_bytes bytes_of unary binary table_of
first_chosen = refl

second_chosen : run choice 0 10 ≡ gave 2 7
unfolding answer_of invoke effect_of meaning_of signature_of opcode_signature access_bytes bytes_of unary binary table_of
second_chosen = refl

done_if_not_zero : run maybe 1 10 ≡ gave 3 5
unfolding answer_of invoke effect_of meaning_of signature_of opcode_signature access_bytes bytes_of unary binary table_of
done_if_not_zero = refl

passed_if_zero : run maybe 0 10 ≡ gave 0 7
unfolding answer_of invoke effect_of meaning_of signature_of opcode_signature access_bytes bytes_of unary binary table_of
passed_if_zero = refl

-- a branch in a choice leads out of the choice
abbrev out_of_choice : Code
out_of_choice = Leaf (get 0) (IfElse (Some I32) (code (const32 4 ∷ Br 0 ∷ const32 5 ∷ [])) (code (Unreachable ∷ [])) Nil)

choice_left : run out_of_choice 1 10 ≡ gave 4 6
unfolding answer_of invoke effect_of meaning_of signature_of opcode_signature access_bytes bytes_of unary binary table_of
choice_left = refl

-- labels 0 and 1 for the operands 0 and 1, and label 2 for any other
abbrev table : Code
table =
    InBlock None
    (InBlock None (InBlock None (code (get 0 ∷ BrTable (0 ∷ 1 ∷ []) 2 ∷ [])) (code (const32 10 ∷ Return ∷ [])))
    (code (const32 11 ∷ Return ∷ [])))
    (code (const32 12 ∷ []))

first_of_table : run table 0 10 ≡ gave 10 3
unfolding answer_of invoke effect_of meaning_of signature_of opcode_signature access_bytes bytes_of unary binary table_of
first_of_table = refl

second_of_table : run table 1 10 ≡ gave 11 3
unfolding answer_of invoke effect_of meaning_of signature_of opcode_signature access_bytes bytes_of unary binary table_of
second_of_table = refl

default_of_table : run table 2 10 ≡ gave 12 4
unfolding answer_of invoke effect_of meaning_of signature_of opcode_signature access_bytes bytes_of unary binary table_of
default_of_table = refl

default_of_the_largest : run table 0xFFFFFFFF 10 ≡ gave 12 4
unfolding answer_of invoke effect_of meaning_of signature_of opcode_signature access_bytes bytes_of unary binary table_of
default_of_the_largest = refl

-- select keeps the lower operand where the condition isn't 0
abbrev either : Code
either = code (const32 1 ∷ const32 2 ∷ get 0 ∷ Select ∷ [])

lower_selected : run either 5 10 ≡ gave 1 6
unfolding answer_of invoke effect_of meaning_of signature_of opcode_signature access_bytes bytes_of unary binary table_of
lower_selected = refl

upper_selected : run either 0 10 ≡ gave 2 6
unfolding answer_of invoke effect_of meaning_of signature_of opcode_signature access_bytes bytes_of unary binary table_of
upper_selected = refl

select_of_two_types : run (code (const32 1 ∷ const64 2 ∷ get 0 ∷ Select ∷ [])) 1 10 ≡ Stuck
unfolding answer_of invoke effect_of meaning_of signature_of opcode_signature access_bytes bytes_of unary binary table_of
select_of_two_types = refl

-- locals: what is set is read, local.tee leaves its operand, and the local that is no parameter begins with 0

local_set : run (code (const32 6 ∷ put 0 ∷ get 0 ∷ [])) 1 10 ≡ gave 6 7
unfolding answer_of invoke effect_of meaning_of signature_of opcode_signature access_bytes bytes_of unary binary table_of
local_set = refl

local_tee : run (code (const32 6 ∷ tee 0 ∷ get 0 ∷ add32 ∷ [])) 1 10 ≡ gave 12 6
unfolding answer_of invoke effect_of meaning_of signature_of opcode_signature access_bytes bytes_of unary binary table_of
local_tee = refl

local_zero : run (code (get 1 ∷ Numeric 0xA7 ∷ [])) 1 10 ≡ gave 0 8
unfolding answer_of invoke effect_of meaning_of signature_of opcode_signature access_bytes bytes_of unary binary table_of
local_zero = refl

-- globals

global_get : run (code (Globals 0x23 0 ∷ [])) 1 10 ≡ gave 5 9
unfolding answer_of invoke effect_of meaning_of signature_of opcode_signature access_bytes bytes_of unary binary table_of
global_get = refl

global_get_i64 : run (code (Globals 0x23 1 ∷ Numeric 0xA7 ∷ [])) 1 10 ≡ gave 6 8
unfolding answer_of invoke effect_of meaning_of signature_of opcode_signature access_bytes bytes_of unary binary table_of
global_get_i64 = refl

global_set : run (code (get 0 ∷ Globals 0x24 0 ∷ get 0 ∷ [])) 9 10 ≡ Returned (i32 9 ∷ []) (record { bytes = []; globals = 9 ∷ 6 ∷ [] }) 7
unfolding answer_of invoke effect_of meaning_of signature_of opcode_signature access_bytes bytes_of unary binary table_of
global_set = refl

-- behind a trap, or where the fuel is spent, the store is what the instructions before left

spent_keeps_the_store : run (code (get 0 ∷ Globals 0x24 0 ∷ get 0 ∷ [])) 9 2 ≡ Spent (record { bytes = []; globals = 9 ∷ 6 ∷ [] })
unfolding answer_of invoke effect_of meaning_of signature_of opcode_signature access_bytes bytes_of unary binary table_of
spent_keeps_the_store = refl

trap_keeps_the_store : run (code (get 0 ∷ Globals 0x24 0 ∷ Unreachable ∷ [])) 9 10 ≡ Trapped trap.Unreachable (record { bytes = []; globals = 9 ∷ 6 ∷ [] }) 7
unfolding answer_of invoke effect_of meaning_of signature_of opcode_signature access_bytes bytes_of unary binary table_of
trap_keeps_the_store = refl

unreachable : run (code (Unreachable ∷ [])) 1 10 ≡ Trapped trap.Unreachable opening 9
unfolding answer_of invoke effect_of meaning_of signature_of opcode_signature access_bytes bytes_of unary binary table_of
unreachable = refl

divided_by_zero : run (code (const32 1 ∷ get 0 ∷ Numeric 0x6D ∷ [])) 0 10 ≡ Trapped trap.ZeroDivide opening 7
unfolding answer_of invoke effect_of meaning_of signature_of opcode_signature access_bytes bytes_of unary binary table_of
divided_by_zero = refl

least_by_minus_one : run (code (const32 0x80000000 ∷ get 0 ∷ Numeric 0x6D ∷ [])) 0xFFFFFFFF 10 ≡ Trapped trap.Overflow opening 7
unfolding answer_of invoke effect_of meaning_of signature_of opcode_signature access_bytes bytes_of unary binary table_of
least_by_minus_one = refl

remainder_of_that : run (code (const32 0x80000000 ∷ get 0 ∷ Numeric 0x6F ∷ [])) 0xFFFFFFFF 10 ≡ gave 0 7
unfolding answer_of invoke effect_of meaning_of signature_of opcode_signature access_bytes bytes_of unary binary table_of
remainder_of_that = refl

outside_the_memory : run (code (get 0 ∷ Access 0x28 2 0 ∷ [])) 0 10 ≡ Trapped trap.Memory opening 8
unfolding answer_of invoke effect_of meaning_of signature_of opcode_signature access_bytes bytes_of unary binary table_of
outside_the_memory = refl

-- untyped code is stuck: an operand, a result, a local or a label isn't there, or an operand has another type

operand_missing : run (code (get 0 ∷ add32 ∷ [])) 1 10 ≡ Stuck
unfolding answer_of invoke effect_of meaning_of signature_of opcode_signature access_bytes bytes_of unary binary table_of
operand_missing = refl

operand_of_another_type : run (code (get 0 ∷ const64 1 ∷ add32 ∷ [])) 1 10 ≡ Stuck
unfolding answer_of invoke effect_of meaning_of signature_of opcode_signature access_bytes bytes_of unary binary table_of
operand_of_another_type = refl

result_missing : run Nil 1 10 ≡ Stuck
unfolding answer_of invoke effect_of meaning_of signature_of opcode_signature access_bytes bytes_of unary binary table_of
result_missing = refl

result_of_another_type : run (code (const64 1 ∷ [])) 1 10 ≡ Stuck
unfolding answer_of invoke effect_of meaning_of signature_of opcode_signature access_bytes bytes_of unary binary table_of
result_of_another_type = refl

local_missing : run (code (get 2 ∷ [])) 1 10 ≡ Stuck
unfolding answer_of invoke effect_of meaning_of signature_of opcode_signature access_bytes bytes_of unary binary table_of
local_missing = refl

local_of_another_type : run (code (get 0 ∷ put 1 ∷ get 0 ∷ [])) 1 10 ≡ Stuck
unfolding answer_of invoke effect_of meaning_of signature_of opcode_signature access_bytes bytes_of unary binary table_of
local_of_another_type = refl

label_missing : run (code (Br 1 ∷ [])) 1 10 ≡ Stuck
unfolding answer_of invoke effect_of meaning_of signature_of opcode_signature access_bytes bytes_of unary binary table_of
label_missing = refl

global_immutable : run (code (const64 1 ∷ Globals 0x24 1 ∷ get 0 ∷ [])) 1 10 ≡ Stuck
unfolding answer_of invoke effect_of meaning_of signature_of opcode_signature access_bytes bytes_of unary binary table_of
global_immutable = refl

-- a frame with a parameter and 4,094 locals has room for one operand, and not for two
abbrev big : Code → Answer Value
big body = answer_of (sample (func 2 (replicate 4094 I32) body ∷ [])) 0 (3 ∷ []) opening 10

room_for_one : big (code (get 0 ∷ [])) ≡ gave 3 9
unfolding answer_of invoke effect_of meaning_of signature_of opcode_signature access_bytes bytes_of unary binary table_of
room_for_one = refl

no_room_for_two : big (code (get 0 ∷ get 0 ∷ Drop ∷ [])) ≡ Stuck
unfolding answer_of invoke effect_of meaning_of signature_of opcode_signature access_bytes bytes_of unary binary table_of
no_room_for_two = refl

no_room_in_a_block : big (Leaf (get 0) (InBlock None (code (get 0 ∷ Drop ∷ [])) Nil)) ≡ Stuck
unfolding answer_of invoke effect_of meaning_of signature_of opcode_signature access_bytes bytes_of unary binary table_of
no_room_in_a_block = refl
