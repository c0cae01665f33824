-- Rules of a module, in their order, with the place of what fails.
use Rattle.std.specs.Prelude.{◌≡◌, ℕ, true, List, [], ◌∷◌, Option, Some, None, Ok, Err, refl}
use Rattle.wasm_types.specs.declared.instr.ValType.TheVariants.{I32, I64}
use Rattle.wasm_types.specs.declared.module.Limits.{Limits}
use Rattle.wasm_types.specs.declared.module.Export.{Export}
use Rattle.wasm_types.specs.declared.module.Element.{Element}
use Rattle.wasm_types.specs.declared.module.Data.{Data}
use Rattle.wasm_types.specs.declared.module.Constant.{Constant}
use Rattle.wasm_types.specs.Nested.{Nil}
use Rattle.wasm_types.specs.Modules.{NestedModule}
use Rattle.module_specs.specs.ModuleSpelling.{empty}
use Rattle.code_specs.specs.declared.rule.Rule.{Rule}
use Rattle.code_specs.specs.declared.rule.Rule.TheVariants as rule
use Rattle.code_specs.specs.declared.segment.Misfit.TheVariants as misfit
use Rattle.code_specs.specs.Signatures.{signature_of, opcode_signature, access_bytes}
use Rattle.code_specs.specs.Instances.{table_of, opening_store, first_misfit}
use Rattle.code_specs.specs.Typing.{instr_type, type_of_func}
use Rattle.code_specs.specs.Validity.{Verdict, validity}
use Rattle.worked_code.specs.Sample.{code, get, func, types}

abbrev fails : Rule → ℕ → Verdict
fails r place = Err (record { rule = r; place = place; at = 0 })

-- the types () -> (), () -> i32, i32 -> i32, and i32 i64 -> i64, and two functions: () -> (), and i32 -> i32
abbrev base : NestedModule
base = record empty { types = types; funcs = func 0 [] Nil ∷ func 2 [] (code (get 0 ∷ [])) ∷ [] }

abbrev sizes : ℕ → Option ℕ → Limits
sizes min max = record { min = min; max = max }

abbrev named : ℕ → ℕ → ℕ → Export
named letter kind index = record { name = letter ∷ []; kind = kind; index = index }

abbrev constant : ℕ → Constant
constant n = record { ty = I32; value = n }

abbrev element : Constant → List ℕ → Element
element offset funcs = record { offset = offset; funcs = funcs }

abbrev segment : Constant → List ℕ → Data
segment offset bytes = record { offset = offset; bytes = bytes }

nothing : validity empty ≡ Ok tt
unfolding validity type_of_func instr_type signature_of opcode_signature access_bytes
nothing = refl

two_functions : validity base ≡ Ok tt
unfolding validity type_of_func instr_type signature_of opcode_signature access_bytes
two_functions = refl

two_results : validity (record base { types = record { params = []; results = [] } ∷ record { params = []; results = I32 ∷ I32 ∷ [] } ∷ [] }) ≡ fails rule.TypeResult 1
unfolding validity type_of_func instr_type signature_of opcode_signature access_bytes
two_results = refl

function_without_type : validity (record base { funcs = func 0 [] Nil ∷ func 4 [] Nil ∷ [] }) ≡ fails rule.FuncType 1
unfolding validity type_of_func instr_type signature_of opcode_signature access_bytes
function_without_type = refl

a_body_fails : validity (record base { funcs = func 0 [] Nil ∷ func 2 [] Nil ∷ [] }) ≡ fails rule.Operand 1
unfolding validity type_of_func instr_type signature_of opcode_signature access_bytes
a_body_fails = refl

-- a table, and then a memory: the lower place first

one_of_each : validity (record base { tables = sizes 1 (Some 1) ∷ []; memories = sizes 0 (Some 65536) ∷ [] }) ≡ Ok tt
unfolding validity type_of_func instr_type signature_of opcode_signature access_bytes
one_of_each = refl

two_tables : validity (record base { tables = sizes 1 None ∷ sizes 1 None ∷ [] }) ≡ fails rule.Limits 1
unfolding validity type_of_func instr_type signature_of opcode_signature access_bytes
two_tables = refl

two_tables_first_wrong : validity (record base { tables = sizes 2 (Some 1) ∷ sizes 1 None ∷ [] }) ≡ fails rule.Limits 0
unfolding validity type_of_func instr_type signature_of opcode_signature access_bytes
two_tables_first_wrong = refl

table_min_over_max : validity (record base { tables = sizes 2 (Some 1) ∷ []; memories = sizes 1 None ∷ sizes 1 None ∷ [] }) ≡ fails rule.Limits 0
unfolding validity type_of_func instr_type signature_of opcode_signature access_bytes
table_min_over_max = refl

two_memories : validity (record base { memories = sizes 1 None ∷ sizes 1 None ∷ [] }) ≡ fails rule.Limits 1
unfolding validity type_of_func instr_type signature_of opcode_signature access_bytes
two_memories = refl

memory_min_over_max : validity (record base { memories = sizes 2 (Some 1) ∷ [] }) ≡ fails rule.Limits 0
unfolding validity type_of_func instr_type signature_of opcode_signature access_bytes
memory_min_over_max = refl

memory_max_too_large : validity (record base { memories = sizes 0 (Some 65537) ∷ [] }) ≡ fails rule.Limits 0
unfolding validity type_of_func instr_type signature_of opcode_signature access_bytes
memory_max_too_large = refl

table_max_is_free : validity (record base { tables = sizes 0 (Some 65537) ∷ [] }) ≡ Ok tt
unfolding validity type_of_func instr_type signature_of opcode_signature access_bytes
table_max_is_free = refl

constant_of_another_type : validity (record base { globals = record { ty = I64; mutable = true; init = constant 1 } ∷ [] }) ≡ fails rule.Global 0
unfolding validity type_of_func instr_type signature_of opcode_signature access_bytes
constant_of_another_type = refl

-- exports

exports : validity (record base { memories = sizes 0 None ∷ []; exports = named 1 0 1 ∷ named 2 2 0 ∷ [] }) ≡ Ok tt
unfolding validity type_of_func instr_type signature_of opcode_signature access_bytes
exports = refl

unknown_function_exported : validity (record base { exports = named 1 0 1 ∷ named 2 0 2 ∷ [] }) ≡ fails rule.Export 1
unfolding validity type_of_func instr_type signature_of opcode_signature access_bytes
unknown_function_exported = refl

unknown_table_exported : validity (record base { exports = named 1 1 0 ∷ [] }) ≡ fails rule.Export 0
unfolding validity type_of_func instr_type signature_of opcode_signature access_bytes
unknown_table_exported = refl

unknown_memory_exported : validity (record base { exports = named 1 2 0 ∷ [] }) ≡ fails rule.Export 0
unfolding validity type_of_func instr_type signature_of opcode_signature access_bytes
unknown_memory_exported = refl

unknown_global_exported : validity (record base { exports = named 1 3 0 ∷ [] }) ≡ fails rule.Export 0
unfolding validity type_of_func instr_type signature_of opcode_signature access_bytes
unknown_global_exported = refl

name_used_before : validity (record base { exports = named 1 0 1 ∷ named 2 0 0 ∷ named 1 0 0 ∷ [] }) ≡ fails rule.Export 2
unfolding validity type_of_func instr_type signature_of opcode_signature access_bytes
name_used_before = refl

-- the function that runs first

starts : validity (record base { start = Some 0 }) ≡ Ok tt
unfolding validity type_of_func instr_type signature_of opcode_signature access_bytes
starts = refl

start_with_a_parameter : validity (record base { start = Some 1 }) ≡ fails rule.Start 0
unfolding validity type_of_func instr_type signature_of opcode_signature access_bytes
start_with_a_parameter = refl

unknown_start : validity (record base { start = Some 2 }) ≡ fails rule.Start 0
unfolding validity type_of_func instr_type signature_of opcode_signature access_bytes
unknown_start = refl

-- segments

elements : validity (record base { tables = sizes 4 None ∷ []; elements = element (constant 1) (1 ∷ 0 ∷ []) ∷ [] }) ≡ Ok tt
unfolding validity type_of_func instr_type signature_of opcode_signature access_bytes
elements = refl

elements_without_a_table : validity (record base { elements = element (constant 1) [] ∷ [] }) ≡ fails rule.Element 0
unfolding validity type_of_func instr_type signature_of opcode_signature access_bytes
elements_without_a_table = refl

offset_of_i64 : validity (record base { tables = sizes 4 None ∷ []; elements = element (constant 1) [] ∷ element (record { ty = I64; value = 0 }) [] ∷ [] }) ≡ fails rule.Element 1
unfolding validity type_of_func instr_type signature_of opcode_signature access_bytes
offset_of_i64 = refl

unknown_function_in_the_table : validity (record base { tables = sizes 4 None ∷ []; elements = element (constant 1) (1 ∷ 2 ∷ []) ∷ [] }) ≡ fails rule.Element 0
unfolding validity type_of_func instr_type signature_of opcode_signature access_bytes
unknown_function_in_the_table = refl

datas : validity (record base { memories = sizes 1 None ∷ []; datas = segment (constant 1) (7 ∷ []) ∷ [] }) ≡ Ok tt
unfolding validity type_of_func instr_type signature_of opcode_signature access_bytes
datas = refl

data_without_a_memory : validity (record base { datas = segment (constant 1) [] ∷ [] }) ≡ fails rule.Data 0
unfolding validity type_of_func instr_type signature_of opcode_signature access_bytes
data_without_a_memory = refl

data_offset_of_i64 : validity (record base { memories = sizes 1 None ∷ []; datas = segment (record { ty = I64; value = 0 }) [] ∷ [] }) ≡ fails rule.Data 0
unfolding validity type_of_func instr_type signature_of opcode_signature access_bytes
data_offset_of_i64 = refl

-- the first rule wins, whatever comes later

export_before_start : validity (record base { exports = named 1 3 0 ∷ []; start = Some 9; datas = segment (constant 1) [] ∷ [] }) ≡ fails rule.Export 0
unfolding validity type_of_func instr_type signature_of opcode_signature access_bytes
export_before_start = refl

-- ---- what a table, a memory and globals hold at the beginning

table_later_segments_win : table_of (record base { tables = sizes 4 None ∷ []; elements = element (constant 0) (1 ∷ 1 ∷ []) ∷ element (constant 1) (0 ∷ 1 ∷ []) ∷ [] }) ≡ Some 1 ∷ Some 0 ∷ Some 1 ∷ None ∷ []
unfolding table_of opening_store first_misfit
table_later_segments_win = refl

no_table : table_of base ≡ []
unfolding table_of opening_store first_misfit
no_table = refl

opening_globals : opening_store (record base { globals = record { ty = I32; mutable = true; init = constant 9 } ∷ [] }) ≡ record { bytes = []; globals = 9 ∷ [] }
unfolding table_of opening_store first_misfit
opening_globals = refl

elements_that_fit : first_misfit (record base { tables = sizes 2 None ∷ []; elements = element (constant 1) (0 ∷ []) ∷ element (constant 2) [] ∷ [] }) ≡ None
unfolding table_of opening_store first_misfit
elements_that_fit = refl

element_over_the_end : first_misfit (record base { tables = sizes 2 None ∷ []; elements = element (constant 1) (0 ∷ []) ∷ element (constant 1) (0 ∷ 0 ∷ []) ∷ []; datas = segment (constant 1) [] ∷ [] }) ≡ Some (misfit.Element 1)
unfolding table_of opening_store first_misfit
element_over_the_end = refl

data_over_the_end : first_misfit (record base { memories = sizes 1 None ∷ []; datas = segment (constant 65535) (1 ∷ []) ∷ segment (constant 65535) (1 ∷ 2 ∷ []) ∷ [] }) ≡ Some (misfit.Data 1)
unfolding table_of opening_store first_misfit
data_over_the_end = refl

empty_data_over_the_end : first_misfit (record base { datas = segment (constant 1) [] ∷ [] }) ≡ Some (misfit.Data 0)
unfolding table_of opening_store first_misfit
empty_data_over_the_end = refl
