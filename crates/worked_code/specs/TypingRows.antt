-- Typed bodies, and bodies with their first failing rule and the position of the instruction in the flat body.
use Rattle.std.specs.Prelude.{◌≡◌, ℕ, [], ◌∷◌, Some, None, Ok, Err, replicate, refl}
use Rattle.wasm_types.specs.declared.instr.ValType.TheVariants.{I32, I64}
use Rattle.wasm_types.specs.declared.instr.Instr.TheVariants.{Unreachable, Nop, Br, BrIf, BrTable, Return, Call, CallIndirect, Drop, Select, Globals, Access, MemorySize, MemoryGrow, Numeric}
use Rattle.wasm_types.specs.Nested.{Code, Nil, Leaf, InBlock, InLoop, IfOnly, IfElse}
use Rattle.module_specs.specs.ModuleSpelling.{empty}
use Rattle.code_specs.specs.declared.rule.Rule.{Rule}
use Rattle.code_specs.specs.declared.rule.Rule.TheVariants.{Index, Align, Operand, Slots}
use Rattle.code_specs.specs.Signatures.{signature_of, opcode_signature, access_bytes}
use Rattle.code_specs.specs.Typing.{instr_type, type_of_func}
use Rattle.code_specs.specs.Validity.{Verdict, validity}
use Rattle.worked_code.specs.Sample.{code, const32, const64, get, put, tee, add32, func, types, sample}

-- function 1 is i32 -> i32, with a local of type i64 and this body
abbrev verdict : Code → Verdict
verdict body = validity (sample (func 0 [] Nil ∷ func 2 (I64 ∷ []) body ∷ []))

-- the same in a module with nothing else
abbrev verdict_alone : Code → Verdict
verdict_alone body = validity (record empty { types = types; funcs = func 0 [] Nil ∷ func 2 (I64 ∷ []) body ∷ [] })

-- a rule fails in it, at a position
abbrev fails : Rule → ℕ → Verdict
fails rule position = Err (record { rule = rule; place = 1; at = position })

-- ---- typed

sum : verdict (code (get 0 ∷ const32 1 ∷ add32 ∷ [])) ≡ Ok tt
unfolding validity type_of_func instr_type signature_of opcode_signature access_bytes
sum = refl

nothing_but_a_result : verdict (code (get 0 ∷ [])) ≡ Ok tt
unfolding validity type_of_func instr_type signature_of opcode_signature access_bytes
nothing_but_a_result = refl

indirect_call : verdict (code (get 0 ∷ Call 1 ∷ Call 0 ∷ const32 0 ∷ CallIndirect 2 ∷ [])) ≡ Ok tt
unfolding validity type_of_func instr_type signature_of opcode_signature access_bytes
indirect_call = refl

memory_and_globals : verdict (code (MemorySize ∷ MemoryGrow ∷ Globals 0x24 0 ∷ const32 0 ∷ Globals 0x23 1 ∷ Access 0x37 3 0 ∷ Globals 0x23 0 ∷ Access 0x28 2 0 ∷ [])) ≡ Ok tt
unfolding validity type_of_func instr_type signature_of opcode_signature access_bytes
memory_and_globals = refl

locals : verdict (code (get 1 ∷ tee 1 ∷ put 1 ∷ get 0 ∷ [])) ≡ Ok tt
unfolding validity type_of_func instr_type signature_of opcode_signature access_bytes
locals = refl

selects : verdict (code (get 1 ∷ get 1 ∷ get 0 ∷ Select ∷ Numeric 0xA7 ∷ [])) ≡ Ok tt
unfolding validity type_of_func instr_type signature_of opcode_signature access_bytes
selects = refl

-- a branch to a loop carries nothing, and a branch to a block its result; behind br anything may stand

loops : verdict (InLoop (Some I32) (code (get 0 ∷ BrIf 0 ∷ get 0 ∷ [])) Nil) ≡ Ok tt
unfolding validity type_of_func instr_type signature_of opcode_signature access_bytes
loops = refl

loop_for_ever : verdict (InLoop (Some I32) (code (Br 0 ∷ [])) Nil) ≡ Ok tt
unfolding validity type_of_func instr_type signature_of opcode_signature access_bytes
loop_for_ever = refl

leaves_a_block : verdict (InBlock (Some I32) (code (get 0 ∷ get 0 ∷ BrIf 0 ∷ Br 1 ∷ [])) Nil) ≡ Ok tt
unfolding validity type_of_func instr_type signature_of opcode_signature access_bytes
leaves_a_block = refl

table_of_labels : verdict (InBlock (Some I32) (code (get 0 ∷ get 0 ∷ BrTable (0 ∷ 1 ∷ []) 0 ∷ [])) Nil) ≡ Ok tt
unfolding validity type_of_func instr_type signature_of opcode_signature access_bytes
table_of_labels = refl

-- behind unreachable the operands that are asked for are there, of each type that is asked for

behind_unreachable : verdict (code (Unreachable ∷ add32 ∷ [])) ≡ Ok tt
unfolding validity type_of_func instr_type signature_of opcode_signature access_bytes
behind_unreachable = refl

either_type : verdict (code (Unreachable ∷ Select ∷ Numeric 0xA7 ∷ [])) ≡ Ok tt
unfolding validity type_of_func instr_type signature_of opcode_signature access_bytes
either_type = refl

known_type : verdict (code (Unreachable ∷ const64 1 ∷ const32 0 ∷ Select ∷ [])) ≡ fails Operand 4
unfolding validity type_of_func instr_type signature_of opcode_signature access_bytes
known_type = refl

behind_return : verdict (code (get 0 ∷ Return ∷ Drop ∷ Drop ∷ get 0 ∷ get 0 ∷ add32 ∷ [])) ≡ Ok tt
unfolding validity type_of_func instr_type signature_of opcode_signature access_bytes
behind_return = refl

-- an if with a result and no else is found at its end; with an else it is typed

lone_if : verdict (Leaf (const32 0) (IfOnly (Some I32) (code (const32 1 ∷ [])) Nil)) ≡ fails Operand 3
unfolding validity type_of_func instr_type signature_of opcode_signature access_bytes
lone_if = refl

with_else : verdict (Leaf (const32 0) (IfElse (Some I32) (code (const32 1 ∷ [])) (code (const32 2 ∷ [])) Nil)) ≡ Ok tt
unfolding validity type_of_func instr_type signature_of opcode_signature access_bytes
with_else = refl

if_without_result : verdict (Leaf (const32 0) (IfOnly None (code (Nop ∷ [])) (code (get 0 ∷ [])))) ≡ Ok tt
unfolding validity type_of_func instr_type signature_of opcode_signature access_bytes
if_without_result = refl

-- ---- Index: a local, a global, a function, a type, a label, a table, a memory, and a global that code may not set

unknown_local : verdict (code (get 0 ∷ get 2 ∷ [])) ≡ fails Index 1
unfolding validity type_of_func instr_type signature_of opcode_signature access_bytes
unknown_local = refl

unknown_global : verdict (code (Globals 0x23 2 ∷ [])) ≡ fails Index 0
unfolding validity type_of_func instr_type signature_of opcode_signature access_bytes
unknown_global = refl

immutable_global : verdict (code (get 1 ∷ Globals 0x24 1 ∷ get 0 ∷ [])) ≡ fails Index 1
unfolding validity type_of_func instr_type signature_of opcode_signature access_bytes
immutable_global = refl

unknown_function : verdict (code (Nop ∷ Call 2 ∷ [])) ≡ fails Index 1
unfolding validity type_of_func instr_type signature_of opcode_signature access_bytes
unknown_function = refl

unknown_type : verdict (code (CallIndirect 4 ∷ [])) ≡ fails Index 0
unfolding validity type_of_func instr_type signature_of opcode_signature access_bytes
unknown_type = refl

unknown_label : verdict (InBlock None (code (Nop ∷ Br 2 ∷ [])) (code (get 0 ∷ []))) ≡ fails Index 2
unfolding validity type_of_func instr_type signature_of opcode_signature access_bytes
unknown_label = refl

unknown_label_in_a_table : verdict (code (get 1 ∷ BrTable (0 ∷ 1 ∷ []) 0 ∷ [])) ≡ fails Index 1
unfolding validity type_of_func instr_type signature_of opcode_signature access_bytes
unknown_label_in_a_table = refl

unknown_default : verdict (code (get 1 ∷ BrTable (0 ∷ []) 1 ∷ [])) ≡ fails Index 1
unfolding validity type_of_func instr_type signature_of opcode_signature access_bytes
unknown_default = refl

no_table : verdict_alone (code (get 0 ∷ CallIndirect 2 ∷ [])) ≡ fails Index 1
unfolding validity type_of_func instr_type signature_of opcode_signature access_bytes
no_table = refl

no_memory : verdict_alone (code (get 0 ∷ Access 0x28 3 0 ∷ [])) ≡ fails Index 1
unfolding validity type_of_func instr_type signature_of opcode_signature access_bytes
no_memory = refl

no_memory_to_grow : verdict_alone (code (get 0 ∷ MemoryGrow ∷ [])) ≡ fails Index 1
unfolding validity type_of_func instr_type signature_of opcode_signature access_bytes
no_memory_to_grow = refl

-- ---- Align: before the operands are looked at

aligned_over_width : verdict (code (get 1 ∷ Access 0x28 3 0 ∷ [])) ≡ fails Align 1
unfolding validity type_of_func instr_type signature_of opcode_signature access_bytes
aligned_over_width = refl

aligned_to_width : verdict (code (get 0 ∷ Access 0x28 2 0 ∷ [])) ≡ Ok tt
unfolding validity type_of_func instr_type signature_of opcode_signature access_bytes
aligned_to_width = refl

byte_aligned : verdict (code (get 0 ∷ Access 0x2D 1 0 ∷ [])) ≡ fails Align 1
unfolding validity type_of_func instr_type signature_of opcode_signature access_bytes
byte_aligned = refl

-- ---- Operand: missing, or of another type

operand_missing : verdict (code (get 0 ∷ add32 ∷ [])) ≡ fails Operand 1
unfolding validity type_of_func instr_type signature_of opcode_signature access_bytes
operand_missing = refl

table_index_missing : verdict (code (get 0 ∷ Call 1 ∷ Call 0 ∷ CallIndirect 2 ∷ [])) ≡ fails Operand 3
unfolding validity type_of_func instr_type signature_of opcode_signature access_bytes
table_index_missing = refl

operand_wrong : verdict (code (get 0 ∷ get 1 ∷ add32 ∷ [])) ≡ fails Operand 2
unfolding validity type_of_func instr_type signature_of opcode_signature access_bytes
operand_wrong = refl

select_of_two_types : verdict (code (get 0 ∷ get 1 ∷ get 0 ∷ Select ∷ [])) ≡ fails Operand 3
unfolding validity type_of_func instr_type signature_of opcode_signature access_bytes
select_of_two_types = refl

condition_of_i64 : verdict (Leaf (get 1) (IfOnly None Nil (code (get 0 ∷ [])))) ≡ fails Operand 1
unfolding validity type_of_func instr_type signature_of opcode_signature access_bytes
condition_of_i64 = refl

arguments_exchanged : verdict (code (get 1 ∷ Call 1 ∷ [])) ≡ fails Operand 1
unfolding validity type_of_func instr_type signature_of opcode_signature access_bytes
arguments_exchanged = refl

-- labels that carry different results, in code that isn't reached too

labels_differ : verdict (InBlock None (code (get 0 ∷ get 0 ∷ BrTable (0 ∷ []) 1 ∷ [])) (code (get 0 ∷ []))) ≡ fails Operand 3
unfolding validity type_of_func instr_type signature_of opcode_signature access_bytes
labels_differ = refl

labels_differ_unreached : verdict (InBlock None (code (Unreachable ∷ BrTable (0 ∷ []) 1 ∷ [])) (code (get 0 ∷ []))) ≡ fails Operand 2
unfolding validity type_of_func instr_type signature_of opcode_signature access_bytes
labels_differ_unreached = refl

-- an operand from before the block is out of reach, and an end finds exactly the result

below_the_block : verdict (Leaf (get 0) (InBlock None (code (Drop ∷ [])) Nil)) ≡ fails Operand 2
unfolding validity type_of_func instr_type signature_of opcode_signature access_bytes
below_the_block = refl

one_too_many : verdict (code (get 0 ∷ get 0 ∷ [])) ≡ fails Operand 2
unfolding validity type_of_func instr_type signature_of opcode_signature access_bytes
one_too_many = refl

one_too_few : verdict Nil ≡ fails Operand 0
unfolding validity type_of_func instr_type signature_of opcode_signature access_bytes
one_too_few = refl

wrong_result : verdict (code (get 1 ∷ [])) ≡ fails Operand 1
unfolding validity type_of_func instr_type signature_of opcode_signature access_bytes
wrong_result = refl

block_with_one_too_many : verdict (InBlock None (code (get 0 ∷ [])) (code (get 0 ∷ []))) ≡ fails Operand 2
unfolding validity type_of_func instr_type signature_of opcode_signature access_bytes
block_with_one_too_many = refl

first_list_at_its_else : verdict (Leaf (get 0) (IfElse (Some I32) (code (get 1 ∷ [])) (code (get 1 ∷ [])) Nil)) ≡ fails Operand 3
unfolding validity type_of_func instr_type signature_of opcode_signature access_bytes
first_list_at_its_else = refl

second_list_at_its_end : verdict (Leaf (get 0) (IfElse (Some I32) (code (get 0 ∷ [])) (code (get 1 ∷ [])) Nil)) ≡ fails Operand 5
unfolding validity type_of_func instr_type signature_of opcode_signature access_bytes
second_list_at_its_end = refl

-- ---- Slots: a parameter and 4,094 locals leave room for one operand
abbrev big : Code → Verdict
big body = validity (sample (func 0 [] Nil ∷ func 2 (replicate 4094 I32) body ∷ []))

abbrev bigger : Code → Verdict
bigger body = validity (sample (func 0 [] Nil ∷ func 2 (replicate 4096 I32) body ∷ []))

one_operand : big (code (get 0 ∷ [])) ≡ Ok tt
unfolding validity type_of_func instr_type signature_of opcode_signature access_bytes
one_operand = refl

two_operands : big (code (get 0 ∷ get 0 ∷ Drop ∷ [])) ≡ fails Slots 1
unfolding validity type_of_func instr_type signature_of opcode_signature access_bytes
two_operands = refl

over_a_block : big (Leaf (get 0) (InBlock None (code (get 0 ∷ Drop ∷ [])) Nil)) ≡ fails Slots 2
unfolding validity type_of_func instr_type signature_of opcode_signature access_bytes
over_a_block = refl

result_of_a_block : big (Leaf (get 0) (InBlock (Some I32) (code (Unreachable ∷ [])) (code (Drop ∷ [])))) ≡ fails Slots 3
unfolding validity type_of_func instr_type signature_of opcode_signature access_bytes
result_of_a_block = refl

-- locals alone are too many: at the first instruction, behind its other rules

locals_alone : bigger (code (Nop ∷ get 0 ∷ [])) ≡ fails Slots 0
unfolding validity type_of_func instr_type signature_of opcode_signature access_bytes
locals_alone = refl

locals_with_a_wrong_operand : bigger (code (Drop ∷ get 0 ∷ [])) ≡ fails Operand 0
unfolding validity type_of_func instr_type signature_of opcode_signature access_bytes
locals_with_a_wrong_operand = refl

locals_and_a_block : bigger (InBlock None Nil (code (get 0 ∷ []))) ≡ fails Slots 0
unfolding validity type_of_func instr_type signature_of opcode_signature access_bytes
locals_and_a_block = refl
