-- Calls, with the fuel counted by hand.
use Rattle.std.specs.Prelude.{◌≡◌, ℕ, List, [], ◌∷◌, None, refl}
use Rattle.wasm_types.specs.declared.instr.ValType.TheVariants.{I64}
use Rattle.wasm_types.specs.declared.instr.Instr.TheVariants.{Nop, Call, CallIndirect, Numeric}
use Rattle.wasm_types.specs.Nested.{InBlock}
use Rattle.wasm_types.specs.Modules.{NestedModule}
use Rattle.code_specs.specs.declared.trap.TrapKind.TheVariants as trap
use Rattle.code_specs.specs.Values.{Value}
use Rattle.code_specs.specs.Stores.{bytes_of}
use Rattle.code_specs.specs.Numerics.{unary, binary}
use Rattle.code_specs.specs.Signatures.{signature_of, opcode_signature, access_bytes}
use Rattle.code_specs.specs.Effects.{meaning_of, effect_of}
use Rattle.code_specs.specs.Instances.{table_of}
use Rattle.code_specs.specs.Execution.{Answer, Returned, Trapped, Spent, Stuck, invoke, answer_of}
use Rattle.worked_code.specs.Sample.{i32, i64, code, const32, const64, get, add32, func, sample, opening}

-- Function 0 is () -> () and function 1 is () -> i32; these two are in the table, at 1 and 2. Function 2 is i32 i64 ->
-- i64: the sum of its arguments, and of a local that begins with 0. Function 3 is () -> i32 and calls itself. Function 4
-- is i32 -> i32 and calls the function of the table at its argument, with the type () -> i32. Function 5 is () -> i32:
-- 100 and what function 1 gives.
abbrev program : NestedModule
program = sample
    (func 0 [] (code (Nop ∷ []))
    ∷ func 1 [] (code (const32 20 ∷ []))
    ∷ func 3 (I64 ∷ []) (code (get 0 ∷ Numeric 0xAC ∷ get 1 ∷ Numeric 0x7C ∷ get 2 ∷ Numeric 0x7C ∷ []))
    ∷ func 1 [] (code (Call 3 ∷ []))
    ∷ func 2 [] (code (get 0 ∷ CallIndirect 1 ∷ []))
    ∷ func 1 [] (code (const32 100 ∷ Call 1 ∷ add32 ∷ []))
    ∷ func 1 [] (code (const32 1 ∷ const64 2 ∷ Call 2 ∷ Numeric 0xA7 ∷ []))
    ∷ func 1 [] (code (const64 1 ∷ const32 2 ∷ Call 2 ∷ Numeric 0xA7 ∷ []))
    ∷ func 1 [] (InBlock None (code (const32 1 ∷ Call 0 ∷ [])) (code (const32 3 ∷ [])))
    ∷ func 1 [] (code (Call 99 ∷ []))
    ∷ [])

abbrev call : ℕ → List ℕ → ℕ → Answer Value
call index arguments fuel = answer_of program index arguments opening fuel

abbrev gave : ℕ → ℕ → Answer Value
gave n fuel = Returned (i32 n ∷ []) opening fuel

nothing_returned : call 0 [] 10 ≡ Returned [] opening 9
unfolding answer_of invoke effect_of meaning_of signature_of opcode_signature access_bytes bytes_of unary binary table_of
nothing_returned = refl

sum_of_arguments : call 2 (0xFFFFFFFF ∷ 5 ∷ []) 10 ≡ Returned (i64 4 ∷ []) opening 4
unfolding answer_of invoke effect_of meaning_of signature_of opcode_signature access_bytes bytes_of unary binary table_of
sum_of_arguments = refl

-- two instructions before the callee's one, and one behind

caller_goes_on : call 5 [] 10 ≡ gave 120 6
unfolding answer_of invoke effect_of meaning_of signature_of opcode_signature access_bytes bytes_of unary binary table_of
caller_goes_on = refl

spent_in_the_callee : call 5 [] 2 ≡ Spent opening
unfolding answer_of invoke effect_of meaning_of signature_of opcode_signature access_bytes bytes_of unary binary table_of
spent_in_the_callee = refl

arguments_in_order : call 6 [] 10 ≡ gave 3 0
unfolding answer_of invoke effect_of meaning_of signature_of opcode_signature access_bytes bytes_of unary binary table_of
arguments_in_order = refl

arguments_exchanged : call 7 [] 10 ≡ Stuck
unfolding answer_of invoke effect_of meaning_of signature_of opcode_signature access_bytes bytes_of unary binary table_of
arguments_exchanged = refl

one_unit_short : call 6 [] 9 ≡ Spent opening
unfolding answer_of invoke effect_of meaning_of signature_of opcode_signature access_bytes bytes_of unary binary table_of
one_unit_short = refl

function_missing : call 9 [] 10 ≡ Stuck
unfolding answer_of invoke effect_of meaning_of signature_of opcode_signature access_bytes bytes_of unary binary table_of
function_missing = refl

unknown_function : call 99 [] 10 ≡ Stuck
unfolding answer_of invoke effect_of meaning_of signature_of opcode_signature access_bytes bytes_of unary binary table_of
unknown_function = refl

argument_missing : call 4 [] 10 ≡ Stuck
unfolding answer_of invoke effect_of meaning_of signature_of opcode_signature access_bytes bytes_of unary binary table_of
argument_missing = refl

-- each of the 256 frames takes a unit for its call, and the last call traps

frame_257 : call 3 [] 1000 ≡ Trapped trap.Depth opening 744
unfolding answer_of invoke effect_of meaning_of signature_of opcode_signature access_bytes bytes_of unary binary table_of
frame_257 = refl

spent_before_that : call 3 [] 255 ≡ Spent opening
unfolding answer_of invoke effect_of meaning_of signature_of opcode_signature access_bytes bytes_of unary binary table_of
spent_before_that = refl

trap_at_the_last_unit : call 3 [] 256 ≡ Trapped trap.Depth opening 0
unfolding answer_of invoke effect_of meaning_of signature_of opcode_signature access_bytes bytes_of unary binary table_of
trap_at_the_last_unit = refl

-- the table has nothing at 0, function 0 at 1, function 1 at 2, and no entry 3

table_null : call 4 (0 ∷ []) 10 ≡ Trapped trap.Null opening 8
unfolding answer_of invoke effect_of meaning_of signature_of opcode_signature access_bytes bytes_of unary binary table_of
table_null = refl

table_signature : call 4 (1 ∷ []) 10 ≡ Trapped trap.Signature opening 8
unfolding answer_of invoke effect_of meaning_of signature_of opcode_signature access_bytes bytes_of unary binary table_of
table_signature = refl

table_found : call 4 (2 ∷ []) 10 ≡ gave 20 7
unfolding answer_of invoke effect_of meaning_of signature_of opcode_signature access_bytes bytes_of unary binary table_of
table_found = refl

table_outside : call 4 (3 ∷ []) 10 ≡ Trapped trap.Table opening 8
unfolding answer_of invoke effect_of meaning_of signature_of opcode_signature access_bytes bytes_of unary binary table_of
table_outside = refl

-- a call of the table in frame 256: the other traps come first, and then the depth
abbrev deepest : ℕ → NestedModule
deepest index = sample (func 0 [] (code (Nop ∷ [])) ∷ func 1 [] (code (const32 index ∷ CallIndirect 1 ∷ [])) ∷ [])

signature_before_depth : answer_of (deepest 1) 1 [] opening 1000 ≡ Trapped trap.Signature opening 998
unfolding answer_of invoke effect_of meaning_of signature_of opcode_signature access_bytes bytes_of unary binary table_of
signature_before_depth = refl

depth_in_the_table : answer_of (deepest 2) 1 [] opening 1000 ≡ Trapped trap.Depth opening 488
unfolding answer_of invoke effect_of meaning_of signature_of opcode_signature access_bytes bytes_of unary binary table_of
depth_in_the_table = refl
